-- A pass over the rows of a set in any order finds what a pass in their order does.
use Rattle.std.proofs.Common.{◌≡◌, max, ◌||◌, if◌then◌else◌, List, [], ◌∷◌, map, flat_map, length, refl, sym, ap, ◌∙◌, arith}
use Rattle.std.specs.Ordering.{is_eq}
use Rattle.std.specs.declared.cmp.Ordering.{Ordering}
use Rattle.std.specs.declared.cmp.Ordering.TheVariants.{Less, Equal, Greater}
use Rattle.std.specs.FinMap.Entries.{by_order}
use Rattle.model_values.specs.Value.{Val}
use Rattle.model_values.specs.Token.{Tok}
use Rattle.model_values.specs.Row.{Row, key_cmp}
use Rattle.model_sets.specs.Rows.{level, mark, put, of_rows, join}
use Rattle.model_sets.specs.Rises.{AreApart}
use Rattle.model_sets.proofs.RowLaws.{mark-append, mark-of_rows, mark-join, same_from_mark, ascending-join}
use Rattle.model_sets.proofs.RiseLaws.{level-some}
use Rattle.lasp_logset.proofs.KeptLaws.{apart-length}

-- the state of a pass says what the pass says
pub entries-mark : (rows s : List Row) → of_rows rows ≡ s → (v : Val) (w : Tok) → mark rows v w ≡ mark s v w
entries-mark rows s is v w = sym (mark-of_rows rows v w) ∙ ap (λ (t : List Row). mark t v w) is

-- ---- what each row brings

-- a row put among rows of other keys brings what it brings alone
flat-put : (g : Row → List Row) (r : Row) (t : List Row) (v : Val) (w : Tok) → mark t r.0.0 r.0.1 ≡ 0 → mark (flat_map g (put r t)) v w ≡ max (mark (g r) v w) (mark (flat_map g t) v w)
flat-put g r [] v w none = mark-append (g r) [] v w
flat-put g r (q ∷ t) v w none = choose (key_cmp r.0 q.0) none (λ n. flat-put g r t v w n) where
  choose : (o : Ordering) → max (if is_eq o then level q.1 else 0) (mark t r.0.0 r.0.1) ≡ 0 → (mark t r.0.0 r.0.1 ≡ 0 → mark (flat_map g (put r t)) v w ≡ max (mark (g r) v w) (mark (flat_map g t) v w))
      → mark (flat_map g (by_order o (r ∷ q ∷ t) ((q.0, r.1 || q.1) ∷ t) (q ∷ put r t))) v w ≡ max (mark (g r) v w) (mark (flat_map g (q ∷ t)) v w)
  choose Less n rest = mark-append (g r) (flat_map g (q ∷ t)) v w
  choose Equal n rest = absurd (omega (arith, n, level-some q.1))
  choose Greater n rest = omega (arith, mark-append (g q) (flat_map g (put r t)) v w, mark-append (g q) (flat_map g t) v w, rest (omega (arith, n)))

flat-mark : (g : Row → List Row) (rows : List Row) (v : Val) (w : Tok) → AreApart rows → mark (flat_map g (of_rows rows)) v w ≡ mark (flat_map g rows) v w
flat-mark g [] v w apart = refl
flat-mark g (r ∷ rows) v w apart = omega (arith, flat-put g r (of_rows rows) v w (mark-of_rows rows r.0.0 r.0.1 ∙ apart.0), flat-mark g rows v w apart.1, mark-append (g r) (flat_map g rows) v w)

-- what the rows of a set bring is joined in alike in any order
pub join-entries : (s : List Row) (g : Row → List Row) (rows x : List Row) → AreApart rows → of_rows rows ≡ x → join s (flat_map g rows) ≡ join s (flat_map g x)
join-entries s g rows x apart is =
    same_from_mark (join s (flat_map g rows)) (join s (flat_map g (of_rows rows))) (ascending-join s (flat_map g rows)) (ascending-join s (flat_map g (of_rows rows)))
    (λ v w. omega (arith, mark-join s (flat_map g rows) v w, mark-join s (flat_map g (of_rows rows)) v w, flat-mark g rows v w apart))
    ∙ ap (λ (t : List Row). join s (flat_map g t)) is

-- a map as a list of one for each row
pub map-flat : (f : Row → Row) (rows : List Row) → map f rows ≡ flat_map (λ r. f r ∷ []) rows
map-flat f [] = refl
map-flat f (r ∷ rows) = ap (λ (s : List Row). f r ∷ s) (map-flat f rows)

pub join-moved : (s : List Row) (f : Row → Row) (rows x : List Row) → AreApart rows → of_rows rows ≡ x → join s (map f rows) ≡ join s (map f x)
join-moved s f rows x apart is = ap (λ (t : List Row). join s t) (map-flat f rows) ∙ join-entries s (λ r. f r ∷ []) rows x apart is ∙ ap (λ (t : List Row). join s t) (sym (map-flat f x))

-- ---- how many

pub same-length : (rows x : List Row) → AreApart rows → of_rows rows ≡ x → length rows ≡ length x
same-length rows x apart is = sym (apart-length rows apart) ∙ ap length is
