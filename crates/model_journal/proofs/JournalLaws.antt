-- The laws of journals, each from what holds of every journal that legal entries lead to.
use Rattle.std.proofs.Common.{◌≡◌, ℕ, zero, suc, ◌+◌, ◌≤◌, List, [], ◌∷◌, ◌++◌, length, slice_set, refl, sym, ap, subst, ◌∙◌, arith}
use Rattle.std.proofs.lemmas.List.{length-set}
use Rattle.model_states.specs.Counts.{count_at, AreCountsAtMost}
use Rattle.model_states.proofs.CountLaws.{count_at-larger, length-larger, length-zeros}
use Rattle.model_graph.specs.Order.{ContentsAtMost}
use Rattle.model_graph.specs.Lawful.{IsGraph}
use Rattle.model_graph.proofs.PlaceLaws.{at-past, length-append}
use Rattle.model_journal.specs.Entry.{Act, Update, Deliver, Bind, Extend, Entry, Frame}
use Rattle.model_journal.specs.Journal.{Journal, snapshot_at, snapshot_after, next, run, start, journal, graph, vals, counts_after, counts}
use Rattle.model_journal.specs.Legal.{IsLawful, IsLegalFrom, IsLegal}
use Rattle.model_journal.proofs.PlaceLaws.{at-kept}
use Rattle.model_journal.proofs.StepLaws.{IsLater, later-itself, later-chain, step-later}
use Rattle.model_journal.proofs.GoodLaws.{IsGood, start-good}
use Rattle.model_journal.proofs.NextLaws.{next-good}

pub run-append : (X : Frame) (j : Journal) (h k : List Entry) → run X j (h ++ k) ≡ run X (run X j h) k
run-append X j [] k = refl
run-append X j (e ∷ h) k = run-append X (next X j e) h k

pub run-past : (X : Frame) (j : Journal) (h : List Entry) → length (run X j h).past ≡ length j.past + length h
run-past X j [] = omega arith
run-past X j (e ∷ h) = omega (arith, run-past X (next X j e) h, length-append j.past (j.now ∷ []))

pub run-keeps : (X : Frame) (j : Journal) (h : List Entry) (i : ℕ) → i ≤ length j.past → snapshot_at (run X j h) i ≡ snapshot_at j i
run-keeps X j [] i low = refl
run-keeps X j (e ∷ h) i low =
    run-keeps X (next X j e) h i (omega (arith, low, length-append j.past (j.now ∷ [])))
    ∙ at-kept j.past j.now (snapshot_after X j e.act) i low

-- what stood after the first entries is what these alone lead to
pub journal-past : (X : Frame) (h : List Entry) → length (journal X h).past ≡ length h
journal-past X h = omega (arith, run-past X (start X) h)

pub journal-prefix : (X : Frame) (h k : List Entry) → snapshot_at (journal X (h ++ k)) (length h) ≡ (journal X h).now
journal-prefix X h k =
    ap (λ (j : Journal). snapshot_at j (length h)) (run-append X (start X) h k)
    ∙ run-keeps X (journal X h) k (length h) (omega (arith, journal-past X h))
    ∙ at-past (journal X h).past (length h) (journal X h).now (omega (arith, journal-past X h))

pub journal-push : (X : Frame) (h : List Entry) (e : Entry) → journal X (h ++ e ∷ []) ≡ next X (journal X h) e
journal-push X h e = run-append X (start X) h (e ∷ [])

-- ---- legal entries

pub run-good : (X : Frame) (j : Journal) (h : List Entry) → IsGood X j → IsLegalFrom X j h → IsGood X (run X j h)
run-good X j [] good legal = good
run-good X j (e ∷ h) good legal = run-good X (next X j e) h (next-good X j e good legal.0) legal.2

pub journal-good : (X : Frame) (h : List Entry) → IsLegal X h → IsGood X (journal X h)
journal-good X h legal = run-good X (start X) h (start-good X legal.opening) legal.in_turn

run-later : (X : Frame) (j : Journal) (h : List Entry) → IsLater j.now (run X j h).now
run-later X j [] = later-itself j.now
run-later X j (e ∷ h) = later-chain j.now (snapshot_after X j e.act) (run X (next X j e) h).now (step-later X j e.act) (run-later X (next X j e) h)

pub journal-later : (X : Frame) (h k : List Entry) → IsLater (journal X h).now (journal X (h ++ k)).now
journal-later X h k = subst (λ (j : Journal). IsLater (journal X h).now j.now) (sym (run-append X (start X) h k)) (run-later X (journal X h) k)

pub vals-grow : (X : Frame) (h k : List Entry) → ContentsAtMost (vals X h) (vals X (h ++ k))
vals-grow X h k = (journal-later X h k).grown

-- the graph after legal entries is a graph
pub journal-graph : (X : Frame) (h : List Entry) → IsLegal X h → IsGraph (graph X h)
journal-graph X h legal = (journal-good X h legal).graph

-- ---- counts

after-length : (X : Frame) (cs : List ℕ) (j : Journal) (act : Act) → IsLawful X j act → length cs ≡ X.nodes → length (counts_after X cs act) ≡ X.nodes
after-length X cs j (Update y op) lawful e = length-set cs X.replica (count_at cs X.replica + 1) ∙ e
after-length X cs j (Deliver i m) lawful e = omega (arith, length-larger cs m.counts, lawful.0, e)
after-length X cs j (Bind y n) lawful e = e
after-length X cs j (Extend d) lawful e = e

run-length : (X : Frame) (j : Journal) (h : List Entry) → length j.now.counts ≡ X.nodes → IsLegalFrom X j h → length (run X j h).now.counts ≡ X.nodes
run-length X j [] e legal = e
run-length X j (entry ∷ h) e legal = run-length X (next X j entry) h (after-length X j.now.counts j entry.act legal.0 e) legal.2

pub counts-length : (X : Frame) (h : List Entry) → IsLegal X h → length (counts X h) ≡ X.nodes
counts-length X h legal = run-length X (start X) h (length-zeros X.nodes) legal.in_turn

raised : (cs : List ℕ) (replica q : ℕ) → count_at cs q ≤ count_at (slice_set cs replica (count_at cs replica + 1)) q
raised [] replica q = omega arith
raised (c ∷ cs) zero zero = omega arith
raised (c ∷ cs) zero (suc q) = omega arith
raised (c ∷ cs) (suc replica) zero = omega arith
raised (c ∷ cs) (suc replica) (suc q) = raised cs replica q

after-counts : (X : Frame) (cs : List ℕ) (act : Act) → AreCountsAtMost cs (counts_after X cs act)
after-counts X cs (Update y op) q = raised cs X.replica q
after-counts X cs (Deliver i m) q = omega (arith, count_at-larger cs m.counts q)
after-counts X cs (Bind y n) q = omega arith
after-counts X cs (Extend d) q = omega arith

run-counts : (X : Frame) (j : Journal) (h : List Entry) → AreCountsAtMost j.now.counts (run X j h).now.counts
run-counts X j [] q = omega arith
run-counts X j (e ∷ h) q = omega (arith, after-counts X j.now.counts e.act q, run-counts X (next X j e) h q)

-- counts only rise
pub counts-grow : (X : Frame) (h k : List Entry) → AreCountsAtMost (counts X h) (counts X (h ++ k))
counts-grow X h k = subst (λ (j : Journal). AreCountsAtMost (counts X h) j.now.counts) (sym (run-append X (start X) h k)) (run-counts X (journal X h) k)
