-- The order in which reads were opened, which all that a core does with its parked reads keeps.
use Rattle.std.proofs.Common.{◌≡◌, ℕ, ◌<◌, ◌≤◌, ◌⊎◌, inl, inr, Bool, true, false, cond, List, [], ◌∷◌, ◌++◌, filter, sym, subst, arith}
use Rattle.std.specs.List.{AllByRecursion}
use Rattle.model_values.proofs.ListLaws.{each-weaker}
use Rattle.model_graph.proofs.PlaceLaws.{below-or-not}
use Rattle.model_runs.proofs.EachLaws.{each-append}
use Rattle.model_core.specs.Core.{Read}
use Rattle.model_core.proofs.ReadLaws.{each-kept}
use Rattle.lasp_replica.specs.Jobs.{greatest_count, counted_up}
use Rattle.lasp_core.specs.Core.{IsBefore, AreAscending, AreInOrder}

-- those of them that are kept ascend
kept-ascend : (p : Read → Bool) (reads : List Read) → AreAscending reads → AreAscending (filter p reads)
kept-ascend p [] up = tt
kept-ascend p (r ∷ reads) up = choose (p r) (kept-ascend p reads up.1) where
  choose : (b : Bool) → AreAscending (filter p reads) → AreAscending (cond b (r ∷ filter p reads) (filter p reads))
  choose true rest = (each-kept (λ s. IsBefore r.number s.number) (λ s. IsBefore r.number s.number) p (λ s e before. before) reads up.0, rest)
  choose false rest = rest

pushed-ascend : (reads : List Read) (r : Read) → AreAscending reads → AllByRecursion (λ s. IsBefore s.number r.number) reads → AreAscending (reads ++ r ∷ [])
pushed-ascend [] r up before = (tt, tt)
pushed-ascend (s ∷ reads) r up before = (each-append (λ t. IsBefore s.number t.number) reads (r ∷ []) up.0 (before.0, tt), pushed-ascend reads r up.1 before.1)

-- ---- the next number

before-next : (m n : ℕ) → n ≤ greatest_count → IsBefore m n → IsBefore m (counted_up n 1)
before-next m n counted (inl less) = inl (omega (arith, less, counted))
before-next m n counted (inr both) = inr (both.0, omega (arith, both.1))

number-next : (n : ℕ) → n ≤ greatest_count → IsBefore n (counted_up n 1)
number-next n counted = choose (below-or-not n greatest_count) where
  choose : (n < greatest_count) ⊎ (greatest_count ≤ n) → IsBefore n (counted_up n 1)
  choose (inl less) = inl (omega (arith, less))
  choose (inr past) = inr (omega (arith, past, counted), omega (arith, past, counted))

-- ---- reads in order

pub order-kept : (opened : ℕ) (p : Read → Bool) (reads : List Read) → AreInOrder opened reads → AreInOrder opened (filter p reads)
order-kept opened p reads order = record {
  ascend = kept-ascend p reads order.ascend;
  before = each-kept (λ r. IsBefore r.number opened) (λ r. IsBefore r.number opened) p (λ r e before. before) reads order.before;
  counted = order.counted;
}

-- one read was opened and isn't parked
pub order-opened : (opened : ℕ) (reads : List Read) → AreInOrder opened reads → AreInOrder (counted_up opened 1) reads
order-opened opened reads order = record {
  ascend = order.ascend;
  before = each-weaker (λ r. IsBefore r.number opened) (λ r. IsBefore r.number (counted_up opened 1)) (λ r before. before-next r.number opened order.counted before) reads order.before;
  counted = omega arith;
}

-- one was opened and is parked
pub order-pushed : (opened : ℕ) (reads : List Read) (r : Read) → r.number ≡ opened → AreInOrder opened reads → AreInOrder (counted_up opened 1) (reads ++ r ∷ [])
order-pushed opened reads r number order = record {
  ascend = pushed-ascend reads r order.ascend (subst (λ (n : ℕ). AllByRecursion (λ s. IsBefore s.number n) reads) (sym number) order.before);
  before = each-append (λ s. IsBefore s.number (counted_up opened 1)) reads (r ∷ []) (order-opened opened reads order).before
      (subst (λ (n : ℕ). IsBefore n (counted_up opened 1)) (sym number) (number-next opened order.counted), tt);
  counted = omega arith;
}

-- those of them that pass a test
pub passed-ascend : (p : Read → Bool) (reads out : List Read) → AreAscending reads → out ≡ filter p reads → AreAscending out
passed-ascend p reads out up is = subst AreAscending (sym is) (kept-ascend p reads up)
