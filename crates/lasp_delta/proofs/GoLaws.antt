-- What acts of a run by deltas leave: the driver's part, and what travels beside it.
use Rattle.std.proofs.Common.{refl, sym, ap, subst, ◌∙◌}
use Rattle.std.specs.Prelude.{◌≡◌, ℕ, List, [], ◌∷◌, ◌++◌, slice_get, slice_set, Some, Result, Ok, Err}
use Rattle.model_graph.specs.Chain.{◌>>=◌}
use Rattle.model_graph.specs.Evaluation.{first_large}
use Rattle.model_graph.specs.Message.{Message}
use Rattle.model_world.specs.Lawful.{Stage}
use Rattle.model_world.specs.World.{Run, Act, Take, sent_number, delivered, act, each}
use Rattle.model_world.specs.declared.stop.Stop.{Stop}
use Rattle.model_deltas.specs.Gossip.{Gossip, gossip_each}
use Rattle.model_deltas.specs.Going.{IsGoing}
use Rattle.model_deltas.proofs.RunLaws.{forget, forget-each, gossip-append}
use Rattle.lasp_drive.specs.Node.{NodeView, OnlyLearns}
use Rattle.lasp_drive.specs.Driver.{DriverView, run_of, stage_of, Stands}
use Rattle.lasp_drive.specs.Acts.{Halts, Acted, ActsSeen, all_staged}
use Rattle.lasp_drive.specs.declared.halt.Halt.{Halt}
use Rattle.lasp_drive.specs.declared.halt.Halt.TheVariants as halt
use Rattle.lasp_drive.proofs.NodeLaws.{deliver-stops}
use Rattle.lasp_drive.proofs.ActLaws.{halts-as, halts-then, halts-one, staged-append}
use Rattle.lasp_drive.proofs.StepLaws.{with_nodes, acted-learns}
use Rattle.lasp_delta.specs.Seen.{DeltaView, gossip_of, IsUnderWay}
use Rattle.lasp_delta.specs.Acts.{Did, DoesSeen, Went, Goes}

-- ---- the driver alone

pub did-acted : (c : ℕ) (d e : DriverView) (all : List Act) → Acted c c d all e → Did c d all e
did-acted c d e all h = record { ready = h.ready; size = h.size; stage = h.stage; run = h.run }

pub does-acts : {A : Type 0} (c : ℕ) (d e : DriverView) (all : List Act) (result : Result A Halt) → ActsSeen c c d all result e → DoesSeen c d all result e
does-acts c d e all (Ok done) h = did-acted c d e all h
does-acts c d e all (Err why) h = h.halts

-- a node that was asked
pub did-ask : (c p : ℕ) (d : DriverView) (n new : NodeView) → Stands c d → slice_get d.nodes p ≡ Some n → OnlyLearns n new → Did c d [] (with_nodes d (slice_set d.nodes p new))
did-ask c p d n new ready at learned = did-acted c d (with_nodes d (slice_set d.nodes p new)) [] (acted-learns c p d n new ready at learned)

-- a message that makes a variable too large stops the world
pub halts-take : (c p i x : ℕ) (d : DriverView) (n : NodeView) (m : Message) → n.decls ≡ d.graph → slice_get d.nodes p ≡ Some n → m ≡ sent_number d.sent i
    → first_large 0 (delivered n.decls m n.peer).contents ≡ Some x → Halts (each c (run_of d) (Take p i ∷ [])) (halt.TooLarge c p x)
halts-take c p i x d n m graph at same large = halts-one c (run_of d) (Take p i) (halt.TooLarge c p x) (deliver-stops (run_of d) m (sent_number d.sent i) d.nodes c p x n graph same at large)

-- acts behind a driver that was only asked
pub did-asked : {A : Type 0} (c : ℕ) (d e f : DriverView) (all : List Act) (result : Result A Halt) → Did c d [] e → DoesSeen c e all result f → DoesSeen c d all result f
did-asked c d e f all (Ok done) asked h = record {
  ready = h.ready;
  size = h.size ∙ asked.size;
  stage = h.stage ∙ ap (λ (s : Stage). all_staged s all) asked.stage;
  run = ap (λ (r : Result Run Stop). r >>= (λ next. each c next all)) asked.run ∙ h.run;
}
did-asked c d e f all (Err why) asked h = halts-as (each c (run_of d) all) (each c (run_of e) all) why (ap (λ (r : Result Run Stop). r >>= (λ next. each c next all)) asked.run) h

-- what one act leads to
pub act-one : (c : ℕ) (run next : Run) (a : Act) → each c run (a ∷ []) ≡ Ok next → act c run a ≡ Ok next
act-one c run next a e = choose (act c run a) refl e where
  choose : (r : Result Run Stop) → act c run a ≡ r → (r >>= (λ n. each c n [])) ≡ Ok next → act c run a ≡ Ok next
  choose (Ok n) is h = is ∙ h
  choose (Err stop) is h = absurd cc

-- ---- a place that is the same one

pub going-in : (n m : ℕ) (s t : Stage) (x y : Gossip) → n ≡ m → s ≡ t → x ≡ y → IsGoing n s x → IsGoing m t y
going-in n m s t x y many stage same going = subst (λ (k : ℕ). IsGoing k t y) many (subst (λ (z : Stage). IsGoing n z y) stage (subst (λ (z : Gossip). IsGoing n s z) same going))

-- the driver was only asked
pub run-asked : (c : ℕ) (d e : DriverView) → Did c d [] e → run_of d ≡ run_of e
run-asked c d e asked = of (run_of d) (run_of e) asked.run where
  of : (x y : Run) → each c x [] ≡ Ok y → x ≡ y
  of x y h = cc

-- ---- acts one after the other

-- the run alone
pub went-run : (c next : ℕ) (old new : DeltaView) (all : List Act) → Went c next old all new → each c (run_of old.driver) all ≡ Ok (run_of new.driver)
went-run c next old new all h = sym (forget-each c (gossip_of old) all) ∙ ap forget h.run

pub went-none : (c : ℕ) (d : DeltaView) → IsUnderWay c d → Went c c d [] d
went-none c d under_way = record { under_way = under_way; size = refl; stage = refl; run = refl }

pub went-then : (c next : ℕ) (a b e : DeltaView) (xs ys : List Act) → Went c c a xs b → Went c next b ys e → Went c next a (xs ++ ys) e
went-then c next a b e xs ys first second = record {
  under_way = second.under_way;
  size = second.size ∙ first.size;
  stage = second.stage ∙ ap (λ (s : Stage). all_staged s ys) first.stage ∙ sym (staged-append (stage_of a.driver) xs ys);
  run = gossip-append c (gossip_of a) xs ys ∙ ap (λ (r : Result Gossip Stop). r >>= (λ t. gossip_each c t ys)) first.run ∙ second.run;
}

then-again : (r : Result Run Stop) (f g : Run → Result Run Stop) → (r >>= f) >>= g ≡ r >>= (λ s. f s >>= g)
then-again (Ok s) f g = refl
then-again (Err stop) f g = refl

then-alike : (r : Result Run Stop) (f g : Run → Result Run Stop) → ((s : Run) → f s ≡ g s) → r >>= f ≡ r >>= g
then-alike (Ok s) f g h = h s
then-alike (Err stop) f g h = refl

each-append : (c : ℕ) (run : Run) (xs ys : List Act) → each c run (xs ++ ys) ≡ each c run xs >>= (λ next. each c next ys)
each-append c run [] ys = refl
each-append c run (a ∷ xs) ys =
    then-alike (act c run a) (λ t. each c t (xs ++ ys)) (λ t. each c t xs >>= (λ u. each c u ys)) (λ t. each-append c t xs ys)
    ∙ sym (then-again (act c run a) (λ t. each c t xs) (λ u. each c u ys))

-- a stop within some acts is one within more
pub halts-before : (c : ℕ) (run : Run) (xs ys : List Act) (why : Halt) → Halts (each c run xs) why → Halts (each c run (xs ++ ys)) why
halts-before c run xs ys why h = halts-as (each c run (xs ++ ys)) (each c run xs >>= (λ next. each c next ys)) why (each-append c run xs ys) (halts-then (each c run xs) (λ next. each c next ys) why h)

-- a stop behind acts that were done
pub halts-behind : (c : ℕ) (a b : DeltaView) (xs ys : List Act) (why : Halt) → Went c c a xs b → Halts (each c (run_of b.driver) ys) why → Halts (each c (run_of a.driver) (xs ++ ys)) why
halts-behind c a b xs ys why first h =
    halts-as (each c (run_of a.driver) (xs ++ ys)) (each c (run_of b.driver) ys) why
    (each-append c (run_of a.driver) xs ys ∙ ap (λ (r : Result Run Stop). r >>= (λ next. each c next ys)) (went-run c c a b xs first)) h

pub goes-then : {A : Type 0} (c next : ℕ) (a b e : DeltaView) (xs ys : List Act) (result : Result A Halt) → Went c c a xs b → Goes c next b ys result e → Goes c next a (xs ++ ys) result e
goes-then c next a b e xs ys (Ok done) first h = went-then c next a b e xs ys first h
goes-then c next a b e xs ys (Err why) first h = halts-behind c a b xs ys why first h
