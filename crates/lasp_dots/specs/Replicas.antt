-- The replicas of a run and what they sent, as a world.
use Rattle.std.specs.Prelude.{◌≡◌, ℕ, ◌<◌, List, length, refl}
use Rattle.std.specs.Coded.{Coded, code_by, coded×, coded_list}
use Rattle.model_dots.specs.Dots.{Dots, coded_dots}
use Rattle.model_dots.specs.DotWorld.{DotWorld, dots_at}

-- each state has a count for each replica
pub record AreWide (w : DotWorld) : Type 0 where
  pub nodes : (p : ℕ) → p < length w.nodes → length (dots_at w.nodes p).counts ≡ length w.nodes
  pub sent : (i : ℕ) → i < length w.sent → length (dots_at w.sent i).counts ≡ length w.nodes

-- the code of worlds
abbrev pub coded_world : Coded DotWorld
coded_world = code_by (List Dots × List Dots) (coded× (coded_list coded_dots) (coded_list coded_dots)) (λ w. (w.nodes, w.sent)) (λ p. record { nodes = p.0; sent = p.1 }) (λ _. refl)
