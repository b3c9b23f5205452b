-- Pairs of rows give the same whether the first list or the second is gone through first.
use Rattle.std.proofs.Common.{◌≡◌, max, Bool, true, false, cond, if◌then◌else◌, List, [], ◌∷◌, ◌++◌, map, filter, flat_map, refl, sym, ap, ◌∙◌, arith}
use Rattle.std.specs.Ordering.{is_eq, ordering_reverse}
use Rattle.std.specs.declared.cmp.Ordering.{Ordering}
use Rattle.std.specs.declared.cmp.Ordering.TheVariants.{Less, Equal, Greater}
use Rattle.model_values.specs.Value.{Val, val_cmp, val_total}
use Rattle.model_values.specs.Token.{Tok}
use Rattle.model_values.specs.Row.{Row}
use Rattle.model_sets.specs.Rows.{mark, of_rows, join, is_of}
use Rattle.model_sets.specs.Rises.{AreApart}
use Rattle.model_sets.specs.Equations.{met}
use Rattle.model_sets.proofs.RowLaws.{mark-append, mark-join, ascending-join, same_from_mark}
use Rattle.lasp_setops.proofs.EntryLaws.{join-entries}
use Rattle.lasp_setops.specs.Joined.{meetings}

module _ (g : Row → Row → List Row) where
  abbrev pub by_first : List Row → List Row → List Row
  by_first xs ys = flat_map (λ r. flat_map (g r) ys) xs

  abbrev pub by_second : List Row → List Row → List Row
  by_second xs ys = flat_map (λ q. flat_map (λ r. g r q) xs) ys

none-left : (g : Row → Row → List Row) (xs : List Row) (v : Val) (t : Tok) → mark (by_first g xs []) v t ≡ 0
none-left g [] v t = refl
none-left g (r ∷ xs) v t = none-left g xs v t

one-more : (g : Row → Row → List Row) (xs ys : List Row) (q : Row) (v : Val) (t : Tok) → mark (by_first g xs (q ∷ ys)) v t ≡ max (mark (flat_map (λ r. g r q) xs) v t) (mark (by_first g xs ys) v t)
one-more g [] ys q v t = omega arith
one-more g (r ∷ xs) ys q v t =
    omega (arith, one-more g xs ys q v t, mark-append (g r q ++ flat_map (g r) ys) (by_first g xs (q ∷ ys)) v t, mark-append (g r q) (flat_map (g r) ys) v t, mark-append (g r q) (flat_map (λ r. g r q) xs) v t, mark-append (flat_map (g r) ys) (by_first g xs ys) v t)

swap-mark : (g : Row → Row → List Row) (xs ys : List Row) (v : Val) (t : Tok) → mark (by_first g xs ys) v t ≡ mark (by_second g xs ys) v t
swap-mark g xs [] v t = none-left g xs v t
swap-mark g xs (q ∷ ys) v t = omega (arith, one-more g xs ys q v t, swap-mark g xs ys v t, mark-append (flat_map (λ r. g r q) xs) (by_second g xs ys) v t)

pub swap-join : (g : Row → Row → List Row) (s xs ys : List Row) → join s (by_first g xs ys) ≡ join s (by_second g xs ys)
swap-join g s xs ys = same_from_mark (join s (by_first g xs ys)) (join s (by_second g xs ys)) (ascending-join s (by_first g xs ys)) (ascending-join s (by_second g xs ys))
    (λ v t. omega (arith, mark-join s (by_first g xs ys) v t, mark-join s (by_second g xs ys) v t, swap-mark g xs ys v t))

-- a map of rows that pass as lists of none or one for each row
pub kept-flat : (f : Row → Row) (p : Row → Bool) (ys : List Row) → map f (filter p ys) ≡ flat_map (λ q. if p q then f q ∷ [] else []) ys
kept-flat f p [] = refl
kept-flat f p (q ∷ ys) = by (p q) (kept-flat f p ys) where
  by : (b : Bool) → map f (filter p ys) ≡ flat_map (λ q. if p q then f q ∷ [] else []) ys → map f (cond b (q ∷ filter p ys) (filter p ys)) ≡ (if b then f q ∷ [] else []) ++ flat_map (λ q. if p q then f q ∷ [] else []) ys
  by true rest = ap (λ (s : List Row). f q ∷ s) rest
  by false rest = rest

-- the meetings with the rows of a set are made of those of its value
pub meetings-kept : (r : Row) (y : List Row) → flat_map (meetings r) y ≡ map (met r) (filter (is_of r.0.0) y)
meetings-kept r y = sym (kept-flat (met r) (is_of r.0.0) y)

-- the rows of a value are enough to find the meetings with one of its rows
meetings-near : (r : Row) (near y : List Row) → filter (is_of r.0.0) near ≡ filter (is_of r.0.0) y → flat_map (meetings r) near ≡ flat_map (meetings r) y
meetings-near r near y same = meetings-kept r near ∙ ap (map (met r)) same ∙ sym (meetings-kept r y)

-- in any order they are joined in alike
pub meetings-any : (s : List Row) (r : Row) (near y : List Row) → AreApart near → filter (is_of r.0.0) (of_rows near) ≡ filter (is_of r.0.0) y → join s (flat_map (meetings r) near) ≡ join s (flat_map (meetings r) y)
meetings-any s r near y apart same = join-entries s (meetings r) near (of_rows near) apart refl ∙ ap (λ (t : List Row). join s t) (meetings-near r (of_rows near) y same)

of-either : (v w : Val) → is_eq (val_cmp v w) ≡ is_eq (val_cmp w v)
of-either v w = by (val_cmp v w) (val_cmp w v) (val_total.antisymm v w) where
  by : (o p : Ordering) → o ≡ ordering_reverse p → is_eq o ≡ is_eq p
  by o Less e = ap is_eq e
  by o Equal e = ap is_eq e
  by o Greater e = ap is_eq e

pub met_by-kept : (q : Row) (x : List Row) → flat_map (λ r. meetings r q) x ≡ map (λ r. met r q) (filter (is_of q.0.0) x)
met_by-kept q x = (λ i. flat_map (λ r. if of-either r.0.0 q.0.0 i then met r q ∷ [] else []) x) ∙ sym (kept-flat (λ r. met r q) (is_of q.0.0) x)

met_by-near : (q : Row) (near x : List Row) → filter (is_of q.0.0) near ≡ filter (is_of q.0.0) x → flat_map (λ r. meetings r q) near ≡ flat_map (λ r. meetings r q) x
met_by-near q near x same = met_by-kept q near ∙ ap (map (λ r. met r q)) same ∙ sym (met_by-kept q x)

pub met_by-any : (s : List Row) (q : Row) (near x : List Row) → AreApart near → filter (is_of q.0.0) (of_rows near) ≡ filter (is_of q.0.0) x → join s (flat_map (λ r. meetings r q) near) ≡ join s (flat_map (λ r. meetings r q) x)
met_by-any s q near x apart same = join-entries s (λ r. meetings r q) near (of_rows near) apart refl ∙ ap (λ (t : List Row). join s t) (met_by-near q (of_rows near) x same)
