-- The laws of what is known, and of who holds it.
use Rattle.std.proofs.Common.{◌≡◌, ℕ, ◌+◌, ◌<◌, List, [], ◌∷◌, ◌++◌, length, slice_index_or, Result, Ok, Err, refl, sym, ap, ◌∙◌, arith, ◌≤◌, Bool, true, false, if◌then◌else◌, ◌==◌}
use Rattle.std.proofs.lemmas.Bool.Decides.{nat_tests}
use Rattle.model_states.specs.Counts.{count_at, larger}
use Rattle.model_states.specs.Content.{Content, join_contents, content_mark, IsContentAtMost}
use Rattle.model_states.proofs.ContentLaws.{content_mark-join, ordered-join}
use Rattle.model_graph.specs.Graph.{Decl, kind_at}
use Rattle.model_graph.specs.Evaluation.{least_of}
use Rattle.model_graph.specs.Chain.{◌>>=◌}
use Rattle.model_graph.proofs.PlaceLaws.{equal-numbers}
use Rattle.model_world.specs.Command.{Command, Script}
use Rattle.model_world.specs.Lawful.{Stage, opening_stage, stage_after, AreLawful, IsLawful}
use Rattle.model_world.specs.declared.stop.Stop.{Stop}
use Rattle.model_world.proofs.StopLaws.{point-same}
use Rattle.model_world.specs.World.{Run, Point, peer_at, sent_number, mark_at, act, play, ended}
use Rattle.model_world.specs.Delta.{Delta, deltas_at, first_deltas, brought_to, join_all, known, known_contents}
use Rattle.model_world.specs.Owner.{delta_at}
use Rattle.model_world.specs.Follow.{Followed, begin, follow_step, follow, pointed}
use Rattle.model_world.specs.Holds.{Holds, Carries, Keeps, IsPlaceOf}
use Rattle.model_world.proofs.MeasureLaws.{same_from_measures, measure-all, one, total-larger, first-has, first-low}
use Rattle.model_world.proofs.VariableLaws.{known-ordered}
use Rattle.model_world.proofs.KnowsLaws.{first-none}
use Rattle.model_world.proofs.FollowLaws.{bound, follow-play}
use Rattle.model_world.proofs.PlayLaws.{place-sound}
use Rattle.model_world.proofs.PlaceLaws.{known_contents-at, holds-contents}

pub known-larger : (g : List Decl) (nodes : ℕ) (all : List (List Delta)) (cs ds : List ℕ) (x : ℕ) → known g nodes all (larger cs ds) x ≡ join_contents (known g nodes all cs x) (known g nodes all ds x)
known-larger g nodes all cs ds x =
    same_from_measures (known g nodes all (larger cs ds) x) (join_contents (known g nodes all cs x) (known g nodes all ds x)) (known-ordered g nodes all (larger cs ds) x) (ordered-join (known g nodes all cs x) (known g nodes all ds x))
    (λ μ measure. omega (
      arith,
      total-larger μ measure x all cs ds,
      measure (known g nodes all cs x) (known g nodes all ds x),
      measure-all μ measure (least_of nodes (kind_at g x)) (brought_to x (first_deltas all (larger cs ds))),
      measure-all μ measure (least_of nodes (kind_at g x)) (brought_to x (first_deltas all cs)),
      measure-all μ measure (least_of nodes (kind_at g x)) (brought_to x (first_deltas all ds)),
    ))

pub known-nothing : (g : List Decl) (nodes : ℕ) (all : List (List Delta)) (x : ℕ) → known g nodes all [] x ≡ least_of nodes (kind_at g x)
known-nothing g nodes all x = ap (λ (ds : List Delta). join_all (least_of nodes (kind_at g x)) (brought_to x ds)) (first-none all)

-- what one of the first deltas of a replica brought to the variable is known
pub known-above : (g : List Decl) (nodes : ℕ) (all : List (List Delta)) (cs : List ℕ) (x q j : ℕ) → j < count_at cs q → j < length (deltas_at all q) → (delta_at all q j).var ≡ x → IsContentAtMost (delta_at all q j).content (known g nodes all cs x)
known-above g nodes all cs x q j counted made e k =
    let is : one (λ (c : Content). content_mark c k) (λ s t. content_mark-join s t k) x (delta_at all q j) ≡ content_mark (delta_at all q j).content k =
    ap (λ (b : Bool). if b then content_mark (delta_at all q j).content k else 0) (let same : ((delta_at all q j).var == x) ≡ true = grind (arith, nat_tests, e) in same) in
    omega (
      arith,
      is,
      first-has (λ (c : Content). content_mark c k) (λ s t. content_mark-join s t k) x q j all cs counted made,
      measure-all (λ (c : Content). content_mark c k) (λ s t. content_mark-join s t k) (least_of nodes (kind_at g x)) (brought_to x (first_deltas all cs)),
    )

-- and nothing else is
pub known-least : (g : List Decl) (nodes : ℕ) (all : List (List Delta)) (cs : List ℕ) (x : ℕ) (s : Content) → IsContentAtMost (least_of nodes (kind_at g x)) s
    → ((q j : ℕ) → j < count_at cs q → j < length (deltas_at all q) → (delta_at all q j).var ≡ x → IsContentAtMost (delta_at all q j).content s) → IsContentAtMost (known g nodes all cs x) s
known-least g nodes all cs x s bottom each k =
    omega (
      arith,
      measure-all (λ (c : Content). content_mark c k) (λ s t. content_mark-join s t k) (least_of nodes (kind_at g x)) (brought_to x (first_deltas all cs)),
      bottom k,
      first-low (λ (c : Content). content_mark c k) (λ s t. content_mark-join s t k) x (content_mark s k) all cs low,
    ) where
      low : (q j : ℕ) → j < count_at cs q → j < length (deltas_at all q) → one (λ (c : Content). content_mark c k) (λ s t. content_mark-join s t k) x (delta_at all q j) ≤ content_mark s k
      low q j counted made = choose ((delta_at all q j).var == x) refl where
        choose : (b : Bool) → ((delta_at all q j).var == x) ≡ b → (if b then content_mark (delta_at all q j).content k else 0) ≤ content_mark s k
        choose true e = each q j counted made (equal-numbers (delta_at all q j).var x e) k
        choose false e = omega arith

pub replica-holds : (g : List Decl) (nodes : ℕ) (commands : List Command) (f : Followed) → IsPlaceOf g nodes commands f → (p : ℕ) → p < nodes → Holds f.run.graph nodes f.deltas (peer_at f.run.peers p).contents (peer_at f.run.peers p).counts
replica-holds g nodes commands f place p member = (place-sound g nodes commands f place).holds p member

pub replica-contents : (g : List Decl) (nodes : ℕ) (commands : List Command) (f : Followed) → IsPlaceOf g nodes commands f → (p : ℕ) → p < nodes → (peer_at f.run.peers p).contents ≡ known_contents f.run.graph nodes f.deltas (peer_at f.run.peers p).counts
replica-contents g nodes commands f place p member = holds-contents f.run.graph nodes f.deltas (peer_at f.run.peers p).contents (peer_at f.run.peers p).counts (replica-holds g nodes commands f place p member)

pub replica-own : (g : List Decl) (nodes : ℕ) (commands : List Command) (f : Followed) → IsPlaceOf g nodes commands f → (p : ℕ) → p < nodes → count_at (peer_at f.run.peers p).counts p ≡ length (deltas_at f.deltas p)
replica-own g nodes commands f place p member = (place-sound g nodes commands f place).own p member

pub message-carries : (g : List Decl) (nodes : ℕ) (commands : List Command) (f : Followed) → IsPlaceOf g nodes commands f → (i : ℕ) → Carries f.run.graph nodes f.deltas (sent_number f.run.sent i)
message-carries g nodes commands f place i = (place-sound g nodes commands f place).carries i

pub mark-keeps : (g : List Decl) (nodes : ℕ) (commands : List Command) (f : Followed) → IsPlaceOf g nodes commands f → (m : ℕ) → m < length f.marked → Keeps f.run.graph nodes f.deltas (slice_index_or f.marked m 0) (mark_at f.run.marks m).content
mark-keeps g nodes commands f place m made = (place-sound g nodes commands f place).keeps m made

-- the followed run is the run
pub pointed-play : (c : ℕ) (f : Followed) (commands : List Command) → pointed (c + length commands) (follow c f commands) ≡ play c f.run commands
pointed-play c f commands = same (follow c f commands) ∙ follow-play c f commands where
  same : (r : Result Followed Stop) → pointed (c + length commands) r ≡ (r >>= (λ last. act (c + length commands) last.run Point))
  same (Ok last) = refl
  same (Err stop) = refl

pub end-place : (g : List Decl) (script : Script) (last : Run) → IsLawful g script → ended g script ≡ Ok last → (f : Followed) × IsPlaceOf g script.nodes script.commands f × (f.run ≡ last)
end-place g script last lawful e =
    let both = bound (follow 1 (begin g script.nodes) script.commands) (λ f. act (1 + length script.commands) f.run Point) last (follow-play 1 (begin g script.nodes) script.commands ∙ e) in
    (both.0, record { lawful = lawful.each; reached = both.1 }, sym (point-same (1 + length script.commands) 0 both.0.run.peers both.0.run last both.2))

first-lawful : (nodes : ℕ) (stage : Stage) (commands more : List Command) → AreLawful nodes stage (commands ++ more) → AreLawful nodes stage commands
first-lawful nodes stage [] more h = tt
first-lawful nodes stage (k ∷ rest) more h = (h.0, first-lawful nodes (stage_after nodes stage k) rest more h.1)

first-reached : (c : ℕ) (f last : Followed) (commands more : List Command) → follow c f (commands ++ more) ≡ Ok last → (mid : Followed) × (follow c f commands ≡ Ok mid)
unfolding follow
first-reached c f last [] more e = (f, refl)
first-reached c f last (k ∷ rest) more e =
    let both = bound (follow_step c f k) (λ next. follow (c + 1) next (rest ++ more)) last e in
    let later = first-reached (c + 1) both.0 last rest more both.2 in
    (later.0, ap (λ (r : Result Followed Stop). r >>= (λ next. follow (c + 1) next rest)) both.1 ∙ later.1)

pub first-place : (g : List Decl) (nodes : ℕ) (commands more : List Command) (last : Followed) → IsPlaceOf g nodes (commands ++ more) last → (f : Followed) × IsPlaceOf g nodes commands f
first-place g nodes commands more last place =
    let reached = first-reached 1 (begin g nodes) last commands more place.reached in
    (reached.0, record { lawful = first-lawful nodes (opening_stage g) commands more place.lawful; reached = reached.1 })

pub ruleset known_laws = (known-above, known-least, known-larger, known-nothing, known_contents-at, pointed-play, end-place)

pub ruleset holders = (replica-contents, replica-own)
