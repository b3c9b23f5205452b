-- How many bytes messages have: of the first ones exactly, of the others at most; all of them within a limit, which is a number of 64 bits.
use Rattle.std.specs.Prelude.{◌≡◌, ℕ, ◌+◌, ◌-◌, ◌^◌, ◌≤◌, List, length, take, drop}
use Rattle.model_graph.specs.Message.{Message}
use Rattle.lasp_gossip.specs.Network.{size_of}

pub record IsTally (sent : List Message) (limit counted size most : ℕ) : Type 0 where
  pub few : counted ≤ length sent
  pub exact : size ≡ size_of (take counted sent)
  pub bounded : size_of (drop counted sent) ≤ most
  pub within : size + most ≤ limit
  pub fits : limit ≤ 2 ^ 64 - 1
