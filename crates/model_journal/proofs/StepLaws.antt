-- What one entry does to what stands: contents only grow, versions tell where, and the graph keeps its declarations.
use Rattle.std.proofs.Common.{◌≡◌, ℕ, zero, suc, ◌+◌, ◌≤◌, ◌<◌, ◌⊎◌, inl, inr, Bool, true, false, if◌then◌else◌, IsTrue, List, [], ◌∷◌, length, refl, sym, ap, subst, ◌∙◌, arith}
use Rattle.model_states.specs.Content.{Content, least, IsContentAtMost, is_content_at_most, IsOrdered}
use Rattle.model_states.proofs.ContentLaws.{at_most-itself, at_most-chain, at_most-least, at_most-from-test, test-from-at_most}
use Rattle.model_graph.specs.Graph.{Decl, decl_at}
use Rattle.model_graph.specs.Evaluation.{content_at}
use Rattle.model_graph.specs.Order.{ContentsAtMost}
use Rattle.model_graph.proofs.PlaceLaws.{at-append, at-past, length-append, below-or-not}
use Rattle.model_graph.proofs.LeastLaws.{least_of-ordered}
use Rattle.model_graph.specs.Message.{with_gain, gained}
use Rattle.model_journal.specs.Entry.{Act, Update, Deliver, Bind, Extend, Frame}
use Rattle.model_journal.specs.Journal.{Snapshot, Journal, gain, opened, contents_after, graph_after, snapshot_after}
use Rattle.model_journal.proofs.PlaceLaws.{past-append}
use Rattle.model_graph.proofs.MessageLaws.{gained-length, gained-at}
use Rattle.model_journal.proofs.GainLaws.{gain-grows, gain-ordered, gain-wider}
use Rattle.model_journal.proofs.GraphLaws.{graph-keeps, graph-longer}

opened-ordered : (nodes : ℕ) (act : Act) (x : ℕ) → IsOrdered (content_at (opened nodes act) x)
opened-ordered nodes (Update y op) x = record { rows = refl; values = refl }
opened-ordered nodes (Deliver i m) x = record { rows = refl; values = refl }
opened-ordered nodes (Bind y n) x = record { rows = refl; values = refl }
opened-ordered nodes (Extend d) zero = least_of-ordered nodes d.kind
opened-ordered nodes (Extend d) (suc x) = record { rows = refl; values = refl }

-- a variable that stood has what it gained
pub after-at : (X : Frame) (j : Journal) (act : Act) (x : ℕ) → x < length j.now.contents → content_at (contents_after X j act) x ≡ with_gain (content_at j.now.contents x) (gain X j act x)
after-at X j act x h =
    at-append (gained (gain X j act) 0 j.now.contents) (opened X.nodes act) x least (omega (arith, h, gained-length (gain X j act) 0 j.now.contents))
    ∙ (let here : 0 + x ≡ x = omega arith in gained-at (gain X j act) 0 j.now.contents x h ∙ ap (λ (i : ℕ). with_gain (content_at j.now.contents x) (gain X j act i)) here)

-- what holds of a variable that stood with what it gained, and of what an act adds, holds after the act
after-each : (P : ℕ → Content → Type 0) (X : Frame) (j : Journal) (act : Act)
    → ((x : ℕ) → x < length j.now.contents → P x (with_gain (content_at j.now.contents x) (gain X j act x)))
    → ((x i : ℕ) → length j.now.contents ≤ x → P x (content_at (opened X.nodes act) i))
    → (x : ℕ) → P x (content_at (contents_after X j act) x)
after-each P X j act stood added x = choose (below-or-not x (length j.now.contents)) where
  choose : (x < length j.now.contents) ⊎ (length j.now.contents ≤ x) → P x (content_at (contents_after X j act) x)
  choose (inl h) = subst (P x) (sym (after-at X j act x h)) (stood x h)
  choose (inr h) = past-append (P x) (gained (gain X j act) 0 j.now.contents) (opened X.nodes act) x least (λ i. added x i h) (omega (arith, h, gained-length (gain X j act) 0 j.now.contents))

pub after-grows : (X : Frame) (j : Journal) (act : Act) → ContentsAtMost j.now.contents (contents_after X j act)
after-grows X j act = after-each (λ (x : ℕ) (s : Content). IsContentAtMost (content_at j.now.contents x) s) X j act
    (λ x h. gain-grows (content_at j.now.contents x) (gain X j act x))
    (λ x i h. subst (λ (s : Content). IsContentAtMost s (content_at (opened X.nodes act) i)) (sym (at-past j.now.contents x least h)) (at_most-least (content_at (opened X.nodes act) i)))

pub after-wider : (X : Frame) (j : Journal) (act : Act) (x : ℕ) → length (content_at j.now.contents x).counts ≤ length (content_at (contents_after X j act) x).counts
after-wider X j act = after-each (λ (x : ℕ) (s : Content). length (content_at j.now.contents x).counts ≤ length s.counts) X j act
    (λ x h. gain-wider (content_at j.now.contents x) (gain X j act x))
    (λ x i h. subst (λ (s : Content). length s.counts ≤ length (content_at (opened X.nodes act) i).counts) (sym (at-past j.now.contents x least h)) (omega arith))

pub after-ordered : (X : Frame) (j : Journal) (act : Act) → ((x : ℕ) → IsOrdered (content_at j.now.contents x)) → (x : ℕ) → IsOrdered (content_at (contents_after X j act) x)
after-ordered X j act up = after-each (λ (x : ℕ) (s : Content). IsOrdered s) X j act
    (λ x h. gain-ordered (content_at j.now.contents x) (gain X j act x) (up x)) (λ x i h. opened-ordered X.nodes act i)

pub opened-length : (nodes : ℕ) (g : List Decl) (act : Act) → length (graph_after g act) ≡ length g + length (opened nodes act)
opened-length nodes g (Update z op) = omega arith
opened-length nodes g (Deliver i m) = omega arith
opened-length nodes g (Bind z n) = omega arith
opened-length nodes g (Extend d) = length-append g (d ∷ [])

-- ---- one snapshot after another

-- what stands later: contents are greater, versions tell where they are, and the graph goes on
pub record IsLater (a b : Snapshot) : Type 0 where
  pub grown : ContentsAtMost a.contents b.contents
  pub wider : (x : ℕ) → length (content_at a.contents x).counts ≤ length (content_at b.contents x).counts
  pub counted : (x : ℕ) → a.versions x ≤ b.versions x
  pub same : (x : ℕ) → a.versions x ≡ b.versions x → IsContentAtMost (content_at b.contents x) (content_at a.contents x)
  pub moved : (x : ℕ) → a.versions x < b.versions x → IsContentAtMost (content_at b.contents x) (content_at a.contents x) → ⊥
  pub longer : length a.graph ≤ length b.graph
  pub kept : (y : ℕ) → y < length a.graph → decl_at b.graph y ≡ decl_at a.graph y

pub later-itself : (a : Snapshot) → IsLater a a
later-itself a = record {
  grown = λ x. at_most-itself (content_at a.contents x);
  wider = λ x. omega arith;
  counted = λ x. omega arith;
  same = λ x e. at_most-itself (content_at a.contents x);
  moved = λ x h g. omega (arith, h);
  longer = omega arith;
  kept = λ y h. refl;
}

pub later-chain : (a b c : Snapshot) → IsLater a b → IsLater b c → IsLater a c
later-chain a b c p q = record {
  grown = λ x. at_most-chain (content_at a.contents x) (content_at b.contents x) (content_at c.contents x) (p.grown x) (q.grown x);
  wider = λ x. omega (arith, p.wider x, q.wider x);
  counted = λ x. omega (arith, p.counted x, q.counted x);
  same = λ x e. at_most-chain (content_at c.contents x) (content_at b.contents x) (content_at a.contents x)
      (q.same x (omega (arith, e, p.counted x, q.counted x))) (p.same x (omega (arith, e, p.counted x, q.counted x)));
  moved = λ x h low. choose x h low (below-or-not (a.versions x) (b.versions x));
  longer = omega (arith, p.longer, q.longer);
  kept = λ y h. q.kept y (omega (arith, h, p.longer)) ∙ p.kept y h;
} where
  choose : (x : ℕ) → a.versions x < c.versions x → IsContentAtMost (content_at c.contents x) (content_at a.contents x) → (a.versions x < b.versions x) ⊎ (b.versions x ≤ a.versions x) → ⊥
  choose x h low (inl up) = p.moved x up (at_most-chain (content_at b.contents x) (content_at c.contents x) (content_at a.contents x) (q.grown x) low)
  choose x h low (inr still) = q.moved x (omega (arith, h, still)) (at_most-chain (content_at c.contents x) (content_at a.contents x) (content_at b.contents x) low (p.grown x))

version-up : (b : Bool) (v : ℕ) → v ≤ (if b then v else v + 1)
version-up true v = omega arith
version-up false v = omega arith

version-still : (b : Bool) (v : ℕ) → v ≡ (if b then v else v + 1) → IsTrue b
version-still true v e = refl
version-still false v e = absurd (omega (arith, e))

version-moved : (b : Bool) (v : ℕ) → v < (if b then v else v + 1) → IsTrue b → ⊥
version-moved true v h e = omega (arith, h)
version-moved false v h e = cc

pub step-later : (X : Frame) (j : Journal) (act : Act) → IsLater j.now (snapshot_after X j act)
step-later X j act =
    let old = j.now.contents in
    let new = contents_after X j act in
    record {
      grown = after-grows X j act;
      wider = after-wider X j act;
      counted = λ x. version-up (is_content_at_most (content_at new x) (content_at old x)) (j.now.versions x);
      same = λ x e. at_most-from-test (content_at new x) (content_at old x) (version-still (is_content_at_most (content_at new x) (content_at old x)) (j.now.versions x) e);
      moved = λ x h low. version-moved (is_content_at_most (content_at new x) (content_at old x)) (j.now.versions x) h (test-from-at_most (content_at new x) (content_at old x) low);
      longer = graph-longer j.now.graph act;
      kept = graph-keeps j.now.graph act;
    }
