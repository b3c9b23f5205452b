-- What is known of a run, act by act.
use Rattle.std.proofs.Common.{◌≡◌, ℕ, ◌<◌, List, [], length, replicate, Ok, refl}
use Rattle.model_graph.specs.Graph.{Decl}
use Rattle.model_states.specs.Update.{Op}
use Rattle.model_world.specs.Command.{Until}
use Rattle.model_world.specs.World.{Run, Act, Update, Keep, Post, Take, Show, Open, Extend, peer_at, start, act}
use Rattle.model_world.specs.Follow.{delta_of}
use Rattle.model_world.proofs.KnowsLaws.{known-begin}
use Rattle.model_world.proofs.ActLaws.{acts-update, acts-others}
use Rattle.model_runs.specs.Held.{IsUpdate}
use Rattle.model_runs.proofs.SourceLaws.{update-source}
use Rattle.lasp_drive.specs.Driver.{IsRunKnown}

pub known-start : (many : ℕ) (g : List Decl) → IsRunKnown many (start g many)
known-start many g = (replicate many [], known-begin g many)

module _ (many c : ℕ) (run next : Run) (k : IsRunKnown many run) where
  pub known-update : (p x : ℕ) (op : Op) → p < many → x < length run.graph → IsUpdate many run.graph x op → act c run (Update p x op) ≡ Ok next → IsRunKnown many next
  known-update p x op member low may done = (_, acts-update many c p x op run next k.0 k.1 member low (update-source many run.graph x op may) done (delta_of (peer_at run.peers p) p x op) refl refl)

  known-other : (a : Act) → ((p x : ℕ) (op : Op) → a ≡ Update p x op → ⊥) → act c run a ≡ Ok next → IsRunKnown many next
  known-other a apart done = (k.0, acts-others many c a run next k.0 k.1 apart done)

  pub known-keep : (p x : ℕ) → act c run (Keep p x) ≡ Ok next → IsRunKnown many next
  known-keep p x = known-other (Keep p x) (λ q y op e. absurd cc)

  pub known-post : (p : ℕ) → act c run (Post p) ≡ Ok next → IsRunKnown many next
  known-post p = known-other (Post p) (λ q y op e. absurd cc)

  pub known-take : (p i : ℕ) → act c run (Take p i) ≡ Ok next → IsRunKnown many next
  known-take p i = known-other (Take p i) (λ q y op e. absurd cc)

  pub known-show : (p x : ℕ) → act c run (Show p x) ≡ Ok next → IsRunKnown many next
  known-show p x = known-other (Show p x) (λ q y op e. absurd cc)

  pub known-open : (p x : ℕ) (until : Until) → act c run (Open p x until) ≡ Ok next → IsRunKnown many next
  known-open p x until = known-other (Open p x until) (λ q y op e. absurd cc)

  pub known-extend : (d : Decl) → act c run (Extend d) ≡ Ok next → IsRunKnown many next
  known-extend d = known-other (Extend d) (λ q y op e. absurd cc)
