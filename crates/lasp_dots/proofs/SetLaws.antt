-- What the calls make of a state.
use Rattle.std.proofs.Common.{◌≡◌, ℕ, ◌+◌, ◌<◌, Bool, true, false, not, ◌==◌, List, length, filter, slice_set, IsTrue, ◌↔◌, ◌&&◌, refl, sym, ap, subst, ◌∙◌, arith}
use Rattle.std.proofs.lemmas.Bool.Decides.{nat_tests}
use Rattle.std.specs.List.{list_all}
use Rattle.model_values.specs.Value.{Val}
use Rattle.model_values.specs.Token.{single}
use Rattle.model_values.specs.Row.{Row}
use Rattle.model_sets.specs.Rows.{mark, put, is_of}
use Rattle.model_sets.proofs.RowLaws.{and-left}
use Rattle.model_states.specs.Counts.{count_at, larger, AreCountsAtMost, are_counts_at_most}
use Rattle.model_states.proofs.CountLaws.{counts-test}
use Rattle.model_dots.specs.Dots.{Dots, count_limit, IsState, HaveSameNodes, outlives, join_dots, IsAtMost, add_dot, remove_dots}
use Rattle.model_dots.specs.Loops.{weave, is_at_most}
use Rattle.model_dots.proofs.DotLaws.{state-join, dots-idempotent}
use Rattle.model_dots.proofs.StandLaws.{state-add, state-remove}
use Rattle.model_dots.proofs.RiseLaws.{add-rises, remove-rises}
use Rattle.model_dots.proofs.LoopLaws.{weave-join, at_most-test}

-- ---- updates

-- a new token is in no row
pub fresh-token : (s : Dots) (node k : ℕ) (v : Val) (dot : Row) → IsState s → k ≡ count_at s.counts node + 1 → dot ≡ ((v, single node k), false) → mark s.rows dot.0.0 dot.0.1 ≡ 0
fresh-token s node k v dot h e is = subst (λ (r : Row). mark s.rows r.0.0 r.0.1 ≡ 0) (sym is) (choose (mark s.rows v (single node k) == 0) refl) where
  choose : (b : Bool) → (mark s.rows v (single node k) == 0) ≡ b → mark s.rows v (single node k) ≡ 0
  choose true f = grind (arith, nat_tests, f)
  choose false f = absurd (omega (arith, e, (h.given v (single node k) (grind (arith, nat_tests, f))).1))

pub added : (s : Dots) (node at k : ℕ) (v : Val) (dot : Row) (rows : List Row) → k ≡ count_at s.counts node + 1 → at ≡ node → dot ≡ ((v, single node k), false) → rows ≡ put dot s.rows
    → (record { rows = rows; counts = slice_set s.counts at k }) ≡ add_dot v node s
added s node at k v dot rows e here is new = λ i. record {
  rows = (new ∙ ap (λ (r : Row). put r s.rows) (is ∙ ap (λ (n : ℕ). ((v, single node n), false)) e)) i;
  counts = slice_set s.counts (here i) (e i);
}

pub removed : (s : Dots) (node at k : ℕ) (v : Val) (rows : List Row) → k ≡ count_at s.counts node + 1 → at ≡ node → rows ≡ filter (λ r. not (is_of v r)) s.rows
    → (record { rows = rows; counts = slice_set s.counts at k }) ≡ remove_dots v node s
removed s node at k v rows e here new = λ i. record { rows = new i; counts = slice_set s.counts (here i) (e i) }

pub added-state : (s : Dots) (node at k : ℕ) (v : Val) (dot : Row) (rows : List Row) → IsState s → node < length s.counts → count_at s.counts node < count_limit
    → k ≡ count_at s.counts node + 1 → at ≡ node → dot ≡ ((v, single node k), false) → rows ≡ put dot s.rows → IsState (record { rows = rows; counts = slice_set s.counts at k })
added-state s node at k v dot rows h low left e here is new = subst IsState (sym (added s node at k v dot rows e here is new)) (state-add v node s h low left)

pub removed-state : (s : Dots) (node at k : ℕ) (v : Val) (rows : List Row) → IsState s → node < length s.counts → count_at s.counts node < count_limit
    → k ≡ count_at s.counts node + 1 → at ≡ node → rows ≡ filter (λ r. not (is_of v r)) s.rows → IsState (record { rows = rows; counts = slice_set s.counts at k })
removed-state s node at k v rows h low left e here new = subst IsState (sym (removed s node at k v rows e here new)) (state-remove v node s h low left)

pub added-rises : (s : Dots) (node at k : ℕ) (v : Val) (dot : Row) (rows : List Row) → IsState s → node < length s.counts → count_at s.counts node < count_limit
    → k ≡ count_at s.counts node + 1 → at ≡ node → dot ≡ ((v, single node k), false) → rows ≡ put dot s.rows → IsAtMost s (record { rows = rows; counts = slice_set s.counts at k })
added-rises s node at k v dot rows h low left e here is new = subst (IsAtMost s) (sym (added s node at k v dot rows e here is new)) (add-rises v node s h low left)

pub removed-rises : (s : Dots) (node at k : ℕ) (v : Val) (rows : List Row) → IsState s → node < length s.counts → count_at s.counts node < count_limit
    → k ≡ count_at s.counts node + 1 → at ≡ node → rows ≡ filter (λ r. not (is_of v r)) s.rows → IsAtMost s (record { rows = rows; counts = slice_set s.counts at k })
removed-rises s node at k v rows h low left e here new = subst (IsAtMost s) (sym (removed s node at k v rows e here new)) (remove-rises v node s h low left)

-- rows that stay as they are make a state that isn't less than it was
pub stays : (s : Dots) (rows after : List Row) (counts : List ℕ) → IsState s → (record { rows = rows; counts = counts }) ≡ s → after ≡ rows → IsAtMost s (record { rows = after; counts = counts })
stays s rows after counts h view same = subst (IsAtMost s) (sym ((λ i. record { rows = same i; counts = counts }) ∙ view)) (dots-idempotent s h)

-- ---- the join

pub joined : (s t : Dots) (rows : List Row) (counts : List ℕ) → IsState s → IsState t → rows ≡ weave s.counts t.counts s.rows t.rows → counts ≡ larger s.counts t.counts
    → (record { rows = rows; counts = counts }) ≡ join_dots s t
joined s t rows counts h g e f = λ i. record { rows = (e ∙ weave-join s t h g) i; counts = f i }

pub joined-state : (s t : Dots) (rows : List Row) (counts : List ℕ) → IsState s → IsState t → HaveSameNodes s t → rows ≡ weave s.counts t.counts s.rows t.rows → counts ≡ larger s.counts t.counts
    → IsState (record { rows = rows; counts = counts })
joined-state s t rows counts h g wide e f = subst IsState (sym (joined s t rows counts h g e f)) (state-join s t h g wide)

-- ---- the order

pub order-there : (s t : Dots) → IsState s → IsState t → HaveSameNodes s t → AreCountsAtMost s.counts t.counts → (b : Bool) → b ≡ list_all (λ r. outlives s r.0) t.rows → IsTrue b ↔ IsAtMost s t
order-there s t h g wide few b e =
    let test : b ≡ is_at_most s t = e ∙ ap (λ (a : Bool). a && list_all (λ r. outlives s r.0) t.rows) (sym ((counts-test s.counts t.counts).1 few)) in
    (λ yes. (at_most-test s t h g wide).0 (sym test ∙ yes), λ low. test ∙ (at_most-test s t h g wide).1 low)

pub order-nowhere : (s t : Dots) → IsState s → IsState t → HaveSameNodes s t → (b : Bool) → IsTrue b ↔ AreCountsAtMost s.counts t.counts → b ≡ false → IsTrue b ↔ IsAtMost s t
order-nowhere s t h g wide b few e = (
  λ yes. absurd (let wrong : true ≡ false = sym yes ∙ e in cc),
  λ low. few.1 ((counts-test s.counts t.counts).0 (and-left (are_counts_at_most s.counts t.counts) (list_all (λ r. outlives s r.0) t.rows) ((at_most-test s t h g wide).1 low))),
)
