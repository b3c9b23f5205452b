-- A run in which nothing stops is the run as far as that goes, and everybody in it holds what is known.
use Rattle.std.proofs.Common.{◌≡◌, ℕ, ◌+◌, ◌<◌, List, [], ◌∷◌, length, Ok, refl, sym, ap, subst, ◌∙◌}
use Rattle.model_sets.specs.Rows.{IsAscending}
use Rattle.model_states.specs.Content.{Content}
use Rattle.model_graph.specs.Graph.{Decl}
use Rattle.model_graph.specs.Evaluation.{rows_at}
use Rattle.model_world.specs.Command.{Command, Script}
use Rattle.model_world.specs.Lawful.{Stage, opening_stage, stage_after, MayBeDone, AreLawful}
use Rattle.model_world.specs.World.{Run, Act, Point, start, peer_at, acts, act, ended}
use Rattle.model_world.proofs.StopLaws.{point-same}
use Rattle.model_world.specs.Follow.{Followed, follow_step, follow, begin, followed, afters}
use Rattle.model_world.specs.Holds.{IsPlaceOf}
use Rattle.model_world.proofs.VariableLaws.{known-ordered}
use Rattle.model_world.proofs.SoundLaws.{IsSound, sound-begin}
use Rattle.model_world.proofs.FollowLaws.{bound, step-effect, follow-play}
use Rattle.model_world.proofs.PlayLaws.{IsAt, step-at, stage_after_all}
use Rattle.model_dots.specs.Unlimited.{after_acts, unlimited, IsUnlimited, unlimited_place, IsUnlimitedPlaceOf}

afters-run : (f : Followed) (many : List Act) → (afters f many).run ≡ after_acts f.run many
afters-run f [] = refl
afters-run f (a ∷ rest) = afters-run (followed f a) rest

-- ---- such a run with what its updates brought

abbrev pub followed_all : Followed → List Command → Followed
followed_all f [] = f
followed_all f (k ∷ rest) = followed_all (afters f (acts f.run k)) rest

pub all-run : (f : Followed) (commands : List Command) → (followed_all f commands).run ≡ unlimited f.run commands
unfolding unlimited
all-run f [] = refl
all-run f (k ∷ rest) = all-run (afters f (acts f.run k)) rest ∙ ap (λ (run : Run). unlimited run rest) (afters-run f (acts f.run k))

pub all-place : (f : Followed) (commands : List Command) → followed_all f commands ≡ unlimited_place f commands
unfolding unlimited_place
all-place f [] = refl
all-place f (k ∷ rest) = all-place (afters f (acts f.run k)) rest

pub place-run : (g : List Decl) (nodes : ℕ) (commands : List Command) (f : Followed) → IsUnlimitedPlaceOf g nodes commands f → IsUnlimited g nodes commands f.run
place-run g nodes commands f place = record {
  lawful = place.lawful;
  reached = ap (λ (z : Followed). z.run) (place.reached ∙ sym (all-place (begin g nodes) commands)) ∙ all-run (begin g nodes) commands;
}

-- each such run has its place
pub run-place : (g : List Decl) (nodes : ℕ) (commands : List Command) (run : Run) → IsUnlimited g nodes commands run → (f : Followed) × IsUnlimitedPlaceOf g nodes commands f × (f.run ≡ run)
run-place g nodes commands run is =
    let place : IsUnlimitedPlaceOf g nodes commands (unlimited_place (begin g nodes) commands) = record { lawful = is.lawful; reached = refl } in
    (unlimited_place (begin g nodes) commands, place, (place-run g nodes commands (unlimited_place (begin g nodes) commands) place).reached ∙ sym is.reached)

-- a run that comes behind the commands is this one
pub follow-all : (c : ℕ) (f last : Followed) (commands : List Command) → follow c f commands ≡ Ok last → last ≡ followed_all f commands
unfolding follow
follow-all c f last [] e = cc
follow-all c f last (k ∷ rest) e =
    let both = bound (follow_step c f k) (λ next. follow (c + 1) next rest) last e in
    follow-all (c + 1) both.0 last rest both.2 ∙ ap (λ (g : Followed). followed_all g rest) (step-effect c f both.0 k both.1)

pub place-unlimited : (g : List Decl) (nodes : ℕ) (commands : List Command) (f : Followed) → IsPlaceOf g nodes commands f → f.run ≡ unlimited (start g nodes) commands
place-unlimited g nodes commands f place = ap (λ (z : Followed). z.run) (follow-all 1 (begin g nodes) f commands place.reached) ∙ all-run (begin g nodes) commands

pub place-reached : (g : List Decl) (nodes : ℕ) (commands : List Command) (f : Followed) → IsPlaceOf g nodes commands f → IsUnlimitedPlaceOf g nodes commands f
place-reached g nodes commands f place = record { lawful = place.lawful; reached = follow-all 1 (begin g nodes) f commands place.reached ∙ all-place (begin g nodes) commands }

pub ended-unlimited : (g : List Decl) (script : Script) (last : Run) → ended g script ≡ Ok last → last ≡ unlimited (start g script.nodes) script.commands
ended-unlimited g script last e =
    let both = bound (follow 1 (begin g script.nodes) script.commands) (λ f. act (1 + length script.commands) f.run Point) last (follow-play 1 (begin g script.nodes) script.commands ∙ e) in
    point-same (1 + length script.commands) 0 both.0.run.peers both.0.run last both.2
    ∙ ap (λ (z : Followed). z.run) (follow-all 1 (begin g script.nodes) both.0 script.commands both.1) ∙ all-run (begin g script.nodes) script.commands

-- ---- what is known

pub step-stands : (nodes : ℕ) (stage : Stage) (f : Followed) (k : Command) → IsAt nodes stage f → MayBeDone nodes stage k → IsAt nodes (stage_after nodes stage k) (afters f (acts f.run k))
step-stands nodes stage f k at may =
    subst (λ (z : Stage). IsAt nodes (stage_after nodes z k) (afters f (acts f.run k))) (sym at.stands) (step-at nodes f k at.sound (subst (λ (z : Stage). MayBeDone nodes z k) at.stands may))

all-at : (nodes : ℕ) (stage : Stage) (f : Followed) (commands : List Command) → IsAt nodes stage f → AreLawful nodes stage commands → IsAt nodes (stage_after_all nodes stage commands) (followed_all f commands)
all-at nodes stage f [] at lawful = at
all-at nodes stage f (k ∷ rest) at lawful = all-at nodes (stage_after nodes stage k) (afters f (acts f.run k)) rest (step-stands nodes stage f k at lawful.0) lawful.1

pub begin-at : (g : List Decl) (nodes : ℕ) → IsAt nodes (opening_stage g) (begin g nodes)
begin-at g nodes = record { sound = sound-begin g nodes; stands = refl }

pub all-sound : (g : List Decl) (nodes : ℕ) (commands : List Command) → AreLawful nodes (opening_stage g) commands → IsSound nodes (followed_all (begin g nodes) commands)
all-sound g nodes commands lawful = (all-at nodes (opening_stage g) (begin g nodes) commands (begin-at g nodes) lawful).sound

pub place-sound : (g : List Decl) (nodes : ℕ) (commands : List Command) (f : Followed) → IsUnlimitedPlaceOf g nodes commands f → IsSound nodes f
place-sound g nodes commands f place = subst (IsSound nodes) (all-place (begin g nodes) commands ∙ sym place.reached) (all-sound g nodes commands place.lawful)

-- the rows of a variable ascend
pub rows-ascend : (g : List Decl) (nodes : ℕ) (commands : List Command) (run : Run) → IsUnlimited g nodes commands run → (p x : ℕ) → p < nodes → x < length run.graph → IsAscending (rows_at (peer_at run.peers p).contents x)
rows-ascend g nodes commands run is p x member =
    let f = followed_all (begin g nodes) commands in
    subst (λ (r : Run). x < length r.graph → IsAscending (rows_at (peer_at r.peers p).contents x)) (all-run (begin g nodes) commands ∙ sym is.reached)
    (λ low. subst (λ (k : Content). IsAscending k.rows) (sym (((all-sound g nodes commands is.lawful).holds p member).knows x low)) (known-ordered f.run.graph nodes f.deltas (peer_at f.run.peers p).counts x).rows)

pub ruleset unlimited_runs = (place-unlimited, place-reached, place-run, ended-unlimited)
