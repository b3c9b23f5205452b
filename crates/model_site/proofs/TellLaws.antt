-- From a site's told files to its answer.
use Rattle.std.proofs.Common.{refl, ap, ◌∙◌}
use Rattle.std.specs.Prelude.{◌≡◌, ◌<◌, ℕ, ◌+◌, Bool, List, [], ◌∷◌, length, if◌then◌else◌, Option, Some, None, is_some, option_and_then, Result, Ok}
use Rattle.std.proofs.lemmas.Bool.{lt-ltb}
use Rattle.model_graph.specs.Chain.{◌>>=◌, check, refusing}
use Rattle.model_graph.specs.Evaluation.{first_large}
use Rattle.model_graph.specs.Graph.{Decl, name_at}
use Rattle.model_graph.specs.Message.{Message}
use Rattle.model_scripts.specs.declared.script_why.ScriptWhy.TheVariants.{NoSuchNode}
use Rattle.model_wire.specs.declared.wire_why.WireWhy.{WireWhy}
use Rattle.model_states.specs.Update.{Op}
use Rattle.model_world.specs.Command.{Command, Script}
use Rattle.model_world.specs.World.{Peer, delivered}
use Rattle.model_program.specs.Told.{IsFileTold}
use Rattle.model_program.specs.declared.refusal.Refusal.TheVariants as shared
use Rattle.model_program.specs.declared.state_why.StateWhy.TheVariants.{WrongGraph}
use Rattle.model_program.proofs.MergeLaws.{take-Decides}
use Rattle.model_site.specs.Plan.{Answer, Plan, checked, given, within, reading, told_answer}
use Rattle.model_site.specs.Program.{local_refused, is_for}
use Rattle.model_site.specs.Site.{own, first_other, AreOwn, state_refused, large_refused, message_taken, state_taken, file_taken}
use Rattle.model_site.specs.Told.{IsTaken}
use Rattle.model_site.specs.declared.site_refusal.SiteRefusal.{SiteRefusal}
use Rattle.model_site.specs.declared.site_refusal.SiteRefusal.TheVariants.{Shared, FileTooLarge}
use Rattle.model_site.proofs.PlanLaws.{within-short}
use Rattle.model_site.proofs.SiteLaws.{own-told}

-- ---- one step of a plan

module _ (content : List ℕ → Option (List ℕ)) (words : List (List ℕ)) where
  abbrev told : Plan → Option Answer
  told p = told_answer content words p

  pub told-file : (f : ℕ) (bytes : List ℕ) (next : List ℕ → Plan) → IsFileTold content words f bytes → told (reading f next) ≡ told (next bytes)
  unfolding told_answer
  told-file f bytes next file =
      ap (λ (seen : Option (List ℕ)). option_and_then (λ read. told_answer content words (given (within f read) next)) seen) file.told
      ∙ ap (λ (read : Result (List ℕ) SiteRefusal). told_answer content words (given read next)) (within-short f bytes file.short)

  pub told-checked : {A E : Type 0} (refuse : E → SiteRefusal) (r : Result A E) (a : A) (next : A → Plan) → r ≡ Ok a → told (checked refuse r next) ≡ told (next a)
  told-checked refuse r a next e = ap (λ (s : Result _ _). told (checked refuse s next)) e

-- ---- a state

pub file-taken : (content : List ℕ → Option (List ℕ)) (words : List (List ℕ)) (p : ℕ) (g : List Decl) (f : ℕ) (r : Peer) (m : Message) (taken : IsTaken content words g f r m) → file_taken p g f r taken.bytes ≡ Ok (delivered g m r)
unfolding file_taken
file-taken content words p g f r m taken =
    ap (λ (read : Result Message (ℕ × WireWhy)). refusing (state_refused f) read >>= λ k. message_taken p g f r k) taken.read
    ∙ ap (λ (b : Bool). check b (Shared (shared.State f 0 WrongGraph)) >>= λ _. then_small) ((take-Decides g r m).1 (taken.graph, taken.nodes))
    ∙ ap (λ (o : Option ℕ). large_refused (λ x. FileTooLarge f p (name_at g x)) o >>= λ _. Ok (delivered g m r)) taken.small
  where
    then_small : Result Peer SiteRefusal
    then_small = large_refused (λ x. FileTooLarge f p (name_at g x)) (first_large 0 (delivered g m r).contents) >>= λ _. Ok (delivered g m r)

pub some-bytes : (p : ℕ) (g : List Decl) (f : ℕ) (r : Peer) (bytes : List ℕ) → (bytes ≡ [] → ⊥) → state_taken p g f r bytes ≡ file_taken p g f r bytes
some-bytes p g f r [] none = absurd (none refl)
some-bytes p g f r (b ∷ bytes) none = refl

-- ---- the script

-- all commands of a site's are its own
pub own-first : (p number : ℕ) (commands : List Command) → AreOwn p commands → first_other p number commands ≡ None
unfolding first_other
own-first p number [] all = refl
own-first p number (k ∷ rest) all =
    ap (λ (o : Option (ℕ × Op)). if is_some o then first_other p (number + 1) rest else Some number) (own-told p k all.0.0 all.0.1 all.0.2) ∙ own-first p (number + 1) rest all.1

pub is-for : (p : ℕ) (s : Script) → p < s.nodes → AreOwn p s.commands → is_for p s ≡ Ok tt
is-for p s there own =
    ap (λ (b : Bool). check b (Shared (shared.Script (length s.commands + 1) NoSuchNode)) >>= λ _. local_refused (first_other p 1 s.commands)) (lt-ltb p s.nodes there)
    ∙ ap local_refused (own-first p 1 s.commands own)
