-- Laws of the lines that tell what a graph's variables are.
use Rattle.std.proofs.Common.{zero, suc, refl, sym, ap, ◌∙◌, arith, append_assoc, append-nil, drop}
use Rattle.std.specs.Prelude.{◌≡◌, ℕ, ◌+◌, ◌<◌, ◌≤◌, List, [], ◌∷◌, ◌++◌, length, slice_get, Some}
use Rattle.std.proofs.lemmas.Option.{same_Some}
use Rattle.std.proofs.lemmas.List.{drop_all}
use Rattle.model_graph.specs.Graph.{Decl}
use Rattle.model_graph.specs.Lawful.{width_at, width_of, widths_from, widths}
use Rattle.model_graph.proofs.WidthLaws.{widths-length}
use Rattle.model_program.specs.Check.{check_line, check_lines, check_text}

-- a line for each declaration that has a width here
abbrev pub lines_with : List Decl → List ℕ → List ℕ
lines_with [] ws = []
lines_with (d ∷ g) [] = []
lines_with (d ∷ g) (w ∷ ws) = check_line d w ++ lines_with g ws

lines-from : (g : List Decl) (done : List ℕ) → (rest : List ℕ) × (widths_from g done ≡ done ++ rest) × (check_lines g done ≡ lines_with g rest)
lines-from [] done = ([], sym (append-nil done), refl)
lines-from (d ∷ g) done =
    let w = width_of d.kind done in
    let tail = lines-from g (done ++ w ∷ []) in
    (w ∷ tail.0, tail.1 ∙ append_assoc done (w ∷ []) tail.0, ap (λ (text : List ℕ). check_line d w ++ text) tail.2)

-- the lines are those of the declarations with their widths
pub check-widths : (g : List Decl) → lines_with g (widths g) ≡ check_text g
check-widths g =
    let all = lines-from g [] in
    ap (lines_with g) all.1 ∙ sym all.2

line-next : (g : List Decl) (ws : List ℕ) (x : ℕ) (d : Decl) → slice_get g x ≡ Some d → x < length ws
    → lines_with (drop x g) (drop x ws) ≡ check_line d (width_at ws x) ++ lines_with (drop (suc x) g) (drop (suc x) ws)
line-next [] ws x d at within = absurd cc
line-next (a ∷ g) [] x d at within = absurd (omega (arith, within))
line-next (a ∷ g) (w ∷ ws) zero d at within = ap (λ (e : Decl). check_line e w ++ lines_with g ws) (same_Some a d at)
line-next (a ∷ g) (w ∷ ws) (suc x) d at within = line-next g ws x d at (omega (arith, within))

-- one line more
pub lines-next : (g : List Decl) (x : ℕ) (d : Decl) (text more : List ℕ) → slice_get g x ≡ Some d → x < length g
    → more ≡ text ++ check_line d (width_at (widths g) x) → text ++ lines_with (drop x g) (drop x (widths g)) ≡ check_text g
    → more ++ lines_with (drop (x + 1) g) (drop (x + 1) (widths g)) ≡ check_text g
lines-next g x d text more at within is before =
    let step : x + 1 ≡ suc x = omega arith in
    let rest : List ℕ = lines_with (drop (suc x) g) (drop (suc x) (widths g)) in
    ap (λ (n : ℕ). more ++ lines_with (drop n g) (drop n (widths g))) step
    ∙ ap (λ (t : List ℕ). t ++ rest) is
    ∙ append_assoc text (check_line d (width_at (widths g) x)) rest
    ∙ ap (λ (t : List ℕ). text ++ t) (sym (line-next g (widths g) x d at (omega (arith, widths-length g, within))))
    ∙ before

-- all lines
pub lines-end : (g : List Decl) (x : ℕ) (text : List ℕ) → length g ≤ x → text ++ lines_with (drop x g) (drop x (widths g)) ≡ check_text g → text ≡ check_text g
lines-end g x text past before =
    sym (append-nil text)
    ∙ ap (λ (ds : List Decl). text ++ lines_with ds (drop x (widths g))) (sym (drop_all x g past))
    ∙ before

pub ruleset checking = (check-widths, lines-next, lines-end)
