-- How far a node's own updates take it, having heard of nobody, and that what all do together holds each.
use Rattle.std.proofs.Common.{◌≡◌, ℕ, zero, suc, ◌+◌, ◌<◌, ◌≤◌, ◌==◌, ◌⊎◌, inl, inr, Bool, true, false, if◌then◌else◌, List, [], ◌∷◌, ◌++◌, length, Some, refl, sym, ap, subst, ◌∙◌, append_assoc, arith}
use Rattle.std.specs.List.{range_with_len}
use Rattle.std.specs.Prelude.{slice_set}
use Rattle.model_states.specs.Content.{Content, least, join_contents, IsContentAtMost}
use Rattle.model_states.specs.Update.{Op, delta}
use Rattle.model_states.specs.Update as op
use Rattle.model_states.proofs.ContentLaws.{at_most-itself, at_most-chain, join-left, join-right, counts-join}
use Rattle.model_states.specs.Counts.{count_at}
use Rattle.model_graph.specs.Evaluation.{content_at, least_of}
use Rattle.model_graph.specs.Graph.{Kind, OrSet, GSet, Counter, MaxReg, Decl, no_decl, kind_at}
use Rattle.model_graph.proofs.PlaceLaws.{at-past, at-set, at-append, below-or-not, map-length, set-length}
use Rattle.model_graph.proofs.MessageLaws.{gained-length, gained-at}
use Rattle.model_world.specs.Command as command
use Rattle.model_world.specs.Command.{Command, Script}
use Rattle.model_world.specs.Lawful.{Stage, stage_after, AreLawful, MayBeDone}
use Rattle.model_world.specs.World.{Peer, updated}
use Rattle.model_live.specs.Steps.{Updates, Sends, Prints, Step, Does, Waits, step_at, steps}
use Rattle.model_live.specs.Together.{after_step, after_steps, alone, joined, together}

-- ---- a node's own steps

-- the node came to hold more, variable by variable, and no variable was lost
pub record IsLater (r q : Peer) : Type 0 where
  pub size : length q.contents ≡ length r.contents
  pub keeps : (y : ℕ) → IsContentAtMost (content_at r.contents y) (content_at q.contents y)
  pub wide : (y : ℕ) → length (content_at r.contents y).counts ≤ length (content_at q.contents y).counts
  pub nodes : length q.counts ≡ length r.counts
  pub counted : (n : ℕ) → count_at r.counts n ≤ count_at q.counts n

later-itself : (r : Peer) → IsLater r r
later-itself r = record { size = refl; keeps = λ y. at_most-itself (content_at r.contents y); wide = λ y. omega arith; nodes = refl; counted = λ n. omega arith }

later-chain : (r q t : Peer) → IsLater r q → IsLater q t → IsLater r t
later-chain r q t a b = record {
  size = b.size ∙ a.size;
  keeps = λ y. at_most-chain (content_at r.contents y) (content_at q.contents y) (content_at t.contents y) (a.keeps y) (b.keeps y);
  wide = λ y. let first = a.wide y in let next = b.wide y in omega (arith, first, next);
  nodes = b.nodes ∙ a.nodes;
  counted = λ n. let first = a.counted n in let next = b.counted n in omega (arith, first, next);
}

-- what an update joins in
abbrev pub brings : ℕ → ℕ → Op → Peer → Content
brings p x op r = delta op (content_at r.contents x) p (count_at r.counts p + 1)

-- and what the variable holds then
abbrev pub holds : ℕ → ℕ → Op → Peer → Content
holds p x op r = join_contents (content_at r.contents x) (brings p x op r)

-- what holds of every variable before an update and of the updated one after it holds of every variable after it
pub after-update : (P : ℕ → Content → Type 0) (p x : ℕ) (op : Op) (r : Peer) → P x (holds p x op r) → ((y : ℕ) → P y (content_at r.contents y)) → (y : ℕ) → P y (content_at (updated p x op r).contents y)
after-update P p x op r here before y = choose (below-or-not y (length r.contents)) where
  choose : (y < length r.contents) ⊎ (length r.contents ≤ y) → P y (content_at (updated p x op r).contents y)
  choose (inl low) = at-set (P y) r.contents x (holds p x op r) least y low (λ e. subst (λ (z : ℕ). P z (holds p x op r)) (sym e) here) (λ n. before y)
  choose (inr high) = subst (P y) (at-past r.contents y least high ∙ sym (at-past (updated p x op r).contents y least (omega (arith, high, set-length r.contents x (holds p x op r))))) (before y)

-- one more update is counted, and no fewer of any node
count-up : (counts : List ℕ) (p n : ℕ) → count_at counts n ≤ count_at (slice_set counts p (count_at counts p + 1)) n
count-up counts p n = choose (below-or-not n (length counts)) where
  choose : (n < length counts) ⊎ (length counts ≤ n) → count_at counts n ≤ count_at (slice_set counts p (count_at counts p + 1)) n
  choose (inl low) = at-set (λ (c : ℕ). count_at counts n ≤ c) counts p (count_at counts p + 1) 0 n low (λ e. let same = ap (count_at counts) e in omega (arith, same)) (λ away. omega arith)
  choose (inr high) = let none = at-past counts n 0 high in omega (arith, none)

later-update : (p x : ℕ) (op : Op) (r : Peer) → IsLater r (updated p x op r)
later-update p x op r = record {
  size = set-length r.contents x (holds p x op r);
  keeps = after-update (λ y s. IsContentAtMost (content_at r.contents y) s) p x op r (join-left (content_at r.contents x) (brings p x op r)) (λ y. at_most-itself (content_at r.contents y));
  wide = after-update (λ y s. length (content_at r.contents y).counts ≤ length s.counts) p x op r (omega (arith, counts-join (content_at r.contents x) (brings p x op r))) (λ y. omega arith);
  nodes = set-length r.counts p (count_at r.counts p + 1);
  counted = count-up r.counts p;
}

-- what an update joins in is held then
pub update-brings : (p x : ℕ) (op : Op) (r : Peer) → x < length r.contents → IsContentAtMost (brings p x op r) (content_at (updated p x op r).contents x)
update-brings p x op r low =
    at-set (λ (s : Content). IsContentAtMost (brings p x op r) s) r.contents x (holds p x op r) least x low (λ e. join-right (content_at r.contents x) (brings p x op r)) (λ n. absurd (n refl))

later-step : (p : ℕ) (s : Step) (r : Peer) → IsLater r (after_step p s r)
later-step p (Does (Updates x op)) r = later-update p x op r
later-step p (Does Sends) r = later-itself r
later-step p (Does (Prints x)) r = later-itself r
later-step p (Waits c x until) r = later-itself r

pub later-steps : (p : ℕ) (left : List Step) (r : Peer) → IsLater r (after_steps p left r)
unfolding after_steps
later-steps p [] r = later-itself r
later-steps p (s ∷ left) r = later-chain r (after_step p s r) (after_steps p left (after_step p s r)) (later-step p s r) (later-steps p left (after_step p s r))

pub after-append : (p : ℕ) (done left : List Step) (r : Peer) → after_steps p (done ++ left) r ≡ after_steps p left (after_steps p done r)
unfolding after_steps
after-append p [] left r = refl
after-append p (s ∷ done) left r = after-append p done left (after_step p s r)

-- ---- updates are of their variables' kinds

abbrev pub Suits : Op → Kind → Type 0
Suits (op.Add v) k = k ≡ OrSet
Suits (op.Remove v) k = k ≡ OrSet
Suits (op.Insert v) k = k ≡ GSet
Suits (op.Inc by) k = k ≡ Counter
Suits (op.Max n) k = k ≡ MaxReg
Suits (op.Join t) k = ⊥

-- an update of a variable of the graph is one of its kind
abbrev pub IsSuited : List Decl → Step → Type 0
IsSuited g (Does (Updates x op)) = x < length g → Suits op (kind_at g x)
IsSuited g (Does Sends) = Unit {0}
IsSuited g (Does (Prints x)) = Unit {0}
IsSuited g (Waits c x until) = Unit {0}

abbrev AreSuited : List Decl → List Step → Type 0
AreSuited g [] = Unit {0}
AreSuited g (s ∷ left) = IsSuited g s × AreSuited g left

suited-append : (g : List Decl) (a b : List Step) → AreSuited g a → AreSuited g b → AreSuited g (a ++ b)
suited-append g [] b h k = k
suited-append g (s ∷ a) b h k = (h.0, suited-append g a b h.1 k)

suited-within : (g : List Decl) (done : List Step) (s : Step) (left : List Step) → AreSuited g (done ++ s ∷ left) → IsSuited g s
suited-within g [] s left h = h.0
suited-within g (d ∷ done) s left h = suited-within g done s left h.1

-- what a command does at a node, where the graph went on by declarations
suited-command : (g more : List Decl) (nodes p c : ℕ) (s : Stage) → s.graph ≡ g ++ more → (k : Command) → MayBeDone nodes s k → AreSuited g (step_at p c k)
suited-command g more nodes p c s is k may = choose k may where
  one : (b : Bool) (t : Step) → IsSuited g t → AreSuited g (if b then t ∷ [] else [])
  one true t h = (h, tt)
  one false t h = tt

  kept : (x : ℕ) (k : Kind) → kind_at s.graph x ≡ k → x < length g → kind_at g x ≡ k
  kept x k e low = sym (ap (λ (d : Decl). d.kind) (at-append g more x no_decl low)) ∙ sym (ap (λ (h : List Decl). kind_at h x) is) ∙ e

  choose : (k : Command) → MayBeDone nodes s k → AreSuited g (step_at p c k)
  choose (command.Add q x v) h = one (q == p) (Does (Updates x (op.Add v))) (kept x OrSet h.1)
  choose (command.Remove q x v) h = one (q == p) (Does (Updates x (op.Remove v))) (kept x OrSet h.1)
  choose (command.Insert q x v) h = one (q == p) (Does (Updates x (op.Insert v))) (kept x GSet h.1)
  choose (command.Inc q x by) h = one (q == p) (Does (Updates x (op.Inc by))) (kept x Counter h.1)
  choose (command.Max q x n) h = one (q == p) (Does (Updates x (op.Max n))) (kept x MaxReg h.1)
  choose (command.Mark q x) h = tt
  choose (command.Bind q x m) h = tt
  choose (command.Send q) h = one (q == p) (Does Sends) tt
  choose (command.Deliver q i) h = tt
  choose command.Sync h = tt
  choose command.Settle h = tt
  choose (command.Print q x) h = one (q == p) (Does (Prints x)) tt
  choose (command.Read q x until) h = tt
  choose (command.Await q x until) h = one (q == p) (Waits c x until) tt
  choose (command.Declare d) h = tt

graph-goes : (g more : List Decl) (nodes : ℕ) (s : Stage) → s.graph ≡ g ++ more → (k : Command) → (further : List Decl) × ((stage_after nodes s k).graph ≡ g ++ further)
graph-goes g more nodes s is (command.Add q x v) = (more, is)
graph-goes g more nodes s is (command.Remove q x v) = (more, is)
graph-goes g more nodes s is (command.Insert q x v) = (more, is)
graph-goes g more nodes s is (command.Inc q x by) = (more, is)
graph-goes g more nodes s is (command.Max q x n) = (more, is)
graph-goes g more nodes s is (command.Mark q x) = (more, is)
graph-goes g more nodes s is (command.Bind q x m) = (more, is)
graph-goes g more nodes s is (command.Send q) = (more, is)
graph-goes g more nodes s is (command.Deliver q i) = (more, is)
graph-goes g more nodes s is command.Sync = (more, is)
graph-goes g more nodes s is command.Settle = (more, is)
graph-goes g more nodes s is (command.Print q x) = (more, is)
graph-goes g more nodes s is (command.Read q x until) = (more, is)
graph-goes g more nodes s is (command.Await q x until) = (more, is)
graph-goes g more nodes s is (command.Declare d) = (more ++ d ∷ [], ap (λ (h : List Decl). h ++ d ∷ []) is ∙ append_assoc g more (d ∷ []))

pub steps-suited : (g more : List Decl) (nodes p c : ℕ) (s : Stage) → s.graph ≡ g ++ more → (commands : List Command) → AreLawful nodes s commands → AreSuited g (steps p c commands)
unfolding steps
steps-suited g more nodes p c s is [] lawful = tt
steps-suited g more nodes p c s is (k ∷ rest) lawful =
    let next = graph-goes g more nodes s is k in
    suited-append g (step_at p c k) (steps p (c + 1) rest) (suited-command g more nodes p c s is k lawful.0) (steps-suited g next.0 nodes p (c + 1) (stage_after nodes s k) next.1 rest lawful.1)

-- each update among the steps suits
pub suited-among : (g : List Decl) (all done : List Step) (s : Step) (left : List Step) → all ≡ done ++ s ∷ left → AreSuited g all → IsSuited g s
suited-among g all done s left is h = suited-within g done s left (subst (AreSuited g) is h)

-- ---- all together

pub together-length : (g : List Decl) (script : Script) (ps : List ℕ) → length (together g script ps) ≡ length g
unfolding together
together-length g script [] = map-length (λ (d : Decl). least_of script.nodes d.kind) g
together-length g script (p ∷ ps) = gained-length (λ x. Some (content_at (alone g script p).contents x)) 0 (together g script ps) ∙ together-length g script ps

pub joined-at : (others contents : List Content) (x : ℕ) → x < length contents → content_at (joined others contents) x ≡ join_contents (content_at contents x) (content_at others x)
joined-at others contents x low =
    gained-at (λ y. Some (content_at others y)) 0 contents x low ∙ ap (λ (n : ℕ). join_contents (content_at contents x) (content_at others n)) (let here : 0 + x ≡ x = omega arith in here)

pub together-above : (g : List Decl) (script : Script) (a n p x : ℕ) → a ≤ p → p < a + n → x < length g → IsContentAtMost (content_at (alone g script p).contents x) (content_at (together g script (range_with_len a n)) x)
unfolding together
together-above g script a zero p x from to low = absurd (omega (arith, from, to))
together-above g script a (suc n) p x from to low =
    subst (λ (s : Content). IsContentAtMost (content_at (alone g script p).contents x) s)
    (sym (joined-at (alone g script a).contents rest x (omega (arith, low, together-length g script (range_with_len (a + 1) n))))) (choose (below-or-not a p) (λ past. together-above g script (a + 1) n p x (omega (arith, past)) (omega (arith, to)) low)) where
      rest : List Content
      rest = together g script (range_with_len (a + 1) n)

      both : Content
      both = join_contents (content_at rest x) (content_at (alone g script a).contents x)

      choose : (a < p) ⊎ (p ≤ a) → (a < p → IsContentAtMost (content_at (alone g script p).contents x) (content_at rest x)) → IsContentAtMost (content_at (alone g script p).contents x) both
      choose (inl past) later = at_most-chain (content_at (alone g script p).contents x) (content_at rest x) both (later past) (join-left (content_at rest x) (content_at (alone g script a).contents x))
      choose (inr here) later = subst (λ (q : ℕ). IsContentAtMost (content_at (alone g script q).contents x) both) (let same : a ≡ p = omega (arith, here, from) in same)
          (join-right (content_at rest x) (content_at (alone g script a).contents x))
