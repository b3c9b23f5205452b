-- Each lawful command leaves everybody with what is known.
use Rattle.std.proofs.Common.{◌≡◌, ℕ, ◌+◌, ◌<◌, IsTrue, List, [], ◌∷◌, length, slice_index_or, Ok, refl, sym, subst, ◌∙◌, arith}
use Rattle.model_states.specs.Content.{Content}
use Rattle.model_states.specs.Update.{Op, Add, Remove, Insert, Inc, Max, Join}
use Rattle.model_graph.specs.Graph.{Kind, Decl, is_source, kind_at}
use Rattle.model_graph.specs.Graph as graph
use Rattle.model_graph.proofs.PlaceLaws.{length-push}
use Rattle.model_world.specs.Command as command
use Rattle.model_world.specs.Command.{Command}
use Rattle.model_world.specs.Lawful.{Stage, opening_stage, stage_after, MayBeDone, AreLawful}
use Rattle.model_world.specs.World.{Act, Update, Keep, Post, Take, Point, Show, Open, Reach, Extend, peer_at, mark_at, message_at, sync_acts, acts}
use Rattle.model_world.specs.Follow.{Followed, follow_step, follow, begin, followed, afters}
use Rattle.model_world.specs.Holds.{IsPlaceOf}
use Rattle.model_world.specs.Owner.{AreOwned}
use Rattle.model_world.proofs.TokenLaws.{known-owned}
use Rattle.model_world.proofs.SoundLaws.{IsSound, sound-begin, sound-act}
use Rattle.model_world.proofs.FollowLaws.{bound, step-effect}
use Rattle.model_world.proofs.RoundLaws.{AreCalm, calm-sync, posts, posts-sync}

-- what stands at a place by the commands alone
abbrev pub stage_of : Followed → Stage
stage_of f = record { graph = f.run.graph; marked = f.marked; sent = length f.run.sent }

-- sound, and at the stage
pub record IsAt (nodes : ℕ) (stage : Stage) (f : Followed) : Type 0 where
  pub sound : IsSound nodes f
  pub stands : stage ≡ stage_of f

-- sends and deliveries add the messages sent
calm-afters : (nodes : ℕ) (f : Followed) (many : List Act) → AreCalm many → IsSound nodes f → IsAt nodes (record { graph = f.run.graph; marked = f.marked; sent = length f.run.sent + posts many }) (afters f many)
calm-afters nodes f [] h s = record { sound = s; stands = λ i. record { graph = f.run.graph; marked = f.marked; sent = (let none : length f.run.sent + 0 ≡ length f.run.sent = omega arith in none) i } }
calm-afters nodes f (Post p ∷ rest) h s =
    let next = calm-afters nodes (followed f (Post p)) rest h.1 (sound-act nodes f (Post p) s tt) in
    let more : length f.run.sent + (1 + posts rest) ≡ length (followed f (Post p)).run.sent + posts rest = omega (arith, length-push f.run.sent (message_at f.run.graph (peer_at f.run.peers p))) in
    record { sound = next.sound; stands = (λ i. record { graph = f.run.graph; marked = f.marked; sent = more i }) ∙ next.stands }
calm-afters nodes f (Take p j ∷ rest) h s =
    let next = calm-afters nodes (followed f (Take p j)) rest h.1 (sound-act nodes f (Take p j) s tt) in
    let more : length f.run.sent + (0 + posts rest) ≡ length f.run.sent + posts rest = omega arith in
    record { sound = next.sound; stands = (λ i. record { graph = f.run.graph; marked = f.marked; sent = more i }) ∙ next.stands }
calm-afters nodes f (Update p x op ∷ rest) h s = absurd h.0
calm-afters nodes f (Keep p x ∷ rest) h s = absurd h.0
calm-afters nodes f (Point ∷ rest) h s = absurd h.0
calm-afters nodes f (Show p x ∷ rest) h s = absurd h.0
calm-afters nodes f (Open p x until ∷ rest) h s = absurd h.0
calm-afters nodes f (Reach p x until ∷ rest) h s = absurd h.0
calm-afters nodes f (Extend d ∷ rest) h s = absurd h.0

-- ---- the commands

pub source-of : (g : List Decl) (x : ℕ) (k : Kind) → IsTrue (is_source k) → kind_at g x ≡ k → IsTrue (is_source (kind_at g x))
source-of g x k source e = subst (λ (c : Kind). IsTrue (is_source c)) (sym e) source

-- the mark of a variable has tokens of that variable
pub mark-owned : (nodes : ℕ) (f : Followed) (x m : ℕ) → IsSound nodes f → m < length f.marked → slice_index_or f.marked m 0 ≡ x → AreOwned f.deltas x (mark_at f.run.marks m).content.rows
mark-owned nodes f x m s made e =
    let keeps = s.keeps m made in
    subst (λ (y : ℕ). AreOwned f.deltas y (mark_at f.run.marks m).content.rows) e
    (subst (λ (c : Content). AreOwned f.deltas (slice_index_or f.marked m 0) c.rows) (sym keeps.knows) (known-owned f.run.graph nodes f.deltas keeps.counts (slice_index_or f.marked m 0) s.owned))

updates-at : (nodes : ℕ) (f : Followed) (p x : ℕ) (op : Op) → IsSound nodes f → p < nodes → x < length f.run.graph → IsTrue (is_source (kind_at f.run.graph x)) → ((t : Content) → op ≡ Join t → AreOwned f.deltas x t.rows)
    → IsAt nodes (stage_of f) (followed f (Update p x op))
updates-at nodes f p x op s member low source joined = record { sound = sound-act nodes f (Update p x op) s (member, low, source, joined); stands = refl }

pub step-at : (nodes : ℕ) (f : Followed) (k : Command) → IsSound nodes f → MayBeDone nodes (stage_of f) k → IsAt nodes (stage_after nodes (stage_of f) k) (afters f (acts f.run k))
step-at nodes f (command.Add p x v) s h = updates-at nodes f p x (Add v) s h.0.0 h.0.1 (source-of f.run.graph x graph.OrSet refl h.1) (λ t e. absurd cc)
step-at nodes f (command.Remove p x v) s h = updates-at nodes f p x (Remove v) s h.0.0 h.0.1 (source-of f.run.graph x graph.OrSet refl h.1) (λ t e. absurd cc)
step-at nodes f (command.Insert p x v) s h = updates-at nodes f p x (Insert v) s h.0.0 h.0.1 (source-of f.run.graph x graph.GSet refl h.1) (λ t e. absurd cc)
step-at nodes f (command.Inc p x k) s h = updates-at nodes f p x (Inc k) s h.0.0 h.0.1 (source-of f.run.graph x graph.Counter refl h.1) (λ t e. absurd cc)
step-at nodes f (command.Max p x n) s h = updates-at nodes f p x (Max n) s h.0.0 h.0.1 (source-of f.run.graph x graph.MaxReg refl h.1) (λ t e. absurd cc)
step-at nodes f (command.Mark p x) s h = record { sound = sound-act nodes f (Keep p x) s (h.0.0, h.0.1); stands = refl }
step-at nodes f (command.Bind p x m) s h =
    updates-at nodes f p x (Join (mark_at f.run.marks m).content) s h.0.0 h.0.1 h.1
    (λ t e. subst (λ (c : Content). AreOwned f.deltas x c.rows) (joined (mark_at f.run.marks m).content t e) (mark-owned nodes f x m s h.2.0 h.2.1)) where
      joined : (a b : Content) → Join a ≡ Join b → a ≡ b
      joined a b e = cc
step-at nodes f (command.Send p) s h = record {
  sound = sound-act nodes f (Post p) s tt;
  stands = λ i. record { graph = f.run.graph; marked = f.marked; sent = (sym (length-push f.run.sent (message_at f.run.graph (peer_at f.run.peers p)))) i };
}
step-at nodes f (command.Deliver p j) s h = record { sound = sound-act nodes f (Take p j) s tt; stands = refl }
step-at nodes f command.Sync s h =
    let n = length f.run.peers in
    let many = sync_acts n (length f.run.sent) in
    let calm = calm-afters nodes f many (calm-sync n (length f.run.sent)) s in
    let more : length f.run.sent + nodes ≡ length f.run.sent + posts many = omega (arith, posts-sync n (length f.run.sent), s.many) in
    record { sound = calm.sound; stands = (λ i. record { graph = f.run.graph; marked = f.marked; sent = more i }) ∙ calm.stands }
step-at nodes f command.Settle s h = record { sound = s; stands = refl }
step-at nodes f (command.Print p x) s h = record { sound = s; stands = refl }
step-at nodes f (command.Read p x until) s h = record { sound = s; stands = refl }
step-at nodes f (command.Await p x until) s h = record { sound = s; stands = refl }
step-at nodes f (command.Declare d) s h = record { sound = sound-act nodes f (Extend d) s tt; stands = refl }

pub step-sound : (nodes c : ℕ) (stage : Stage) (f next : Followed) (k : Command) → IsAt nodes stage f → MayBeDone nodes stage k → follow_step c f k ≡ Ok next → IsAt nodes (stage_after nodes stage k) next
step-sound nodes c stage f next k at may e =
    subst (λ (g : Followed). IsAt nodes (stage_after nodes stage k) g) (sym (step-effect c f next k e))
    (subst (λ (z : Stage). IsAt nodes (stage_after nodes z k) (afters f (acts f.run k))) (sym at.stands) (step-at nodes f k at.sound (subst (λ (z : Stage). MayBeDone nodes z k) at.stands may)))

-- the stage after commands
abbrev pub stage_after_all : ℕ → Stage → List Command → Stage
stage_after_all nodes stage [] = stage
stage_after_all nodes stage (k ∷ rest) = stage_after_all nodes (stage_after nodes stage k) rest

pub follow-sound : (nodes c : ℕ) (stage : Stage) (f last : Followed) (commands : List Command) → IsAt nodes stage f → AreLawful nodes stage commands → follow c f commands ≡ Ok last → IsAt nodes (stage_after_all nodes stage commands) last
unfolding follow
follow-sound nodes c stage f last [] at lawful e = subst (λ (g : Followed). IsAt nodes stage g) (let same : f ≡ last = cc in same) at
follow-sound nodes c stage f last (k ∷ rest) at lawful e =
    let both = bound (follow_step c f k) (λ next. follow (c + 1) next rest) last e in
    follow-sound nodes (c + 1) (stage_after nodes stage k) both.0 last rest (step-sound nodes c stage f both.0 k at lawful.0 both.1) lawful.1 both.2

-- so everybody at a place of a lawful run has what is known
pub place-sound : (g : List Decl) (nodes : ℕ) (commands : List Command) (f : Followed) → IsPlaceOf g nodes commands f → IsSound nodes f
place-sound g nodes commands f place =
    (follow-sound nodes 1 (opening_stage g) (begin g nodes) f commands (record { sound = sound-begin g nodes; stands = refl }) place.lawful place.reached).sound
