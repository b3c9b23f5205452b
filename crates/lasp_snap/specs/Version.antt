-- Versions of the states of one replica.
use Rattle.std.specs.Prelude.{◌≡◌, ℕ, ◌≤◌, List, length, Option, refl}
use Rattle.std.specs.Coded.{Coded, code_by, coded×, coded_ℕ}
use Rattle.model_states.specs.Content.{IsContentAtMost}
use Rattle.model_versions.specs.Versions as plain
use Rattle.lasp_graph.specs.States.{Held, coded_states}

abbrev pub Version : Type 0
Version = plain.Version Held

abbrev pub version : ℕ → List Held → Version
version n states = record { n = n; states = states }

-- of one shape, and no more
pub record IsHeldAtMost (h s : Held) : Type 0 where
  pub shape : h.shape ≡ s.shape
  pub content : IsContentAtMost h.content s.content

-- a version that may be published behind that one, if there is one: no fewer entries, and each state has its place there and only grew
abbrev pub MayFollow : Option Version → Version → Type 0
MayFollow = plain.MayFollow IsHeldAtMost

-- each version is later than the one before it
abbrev pub AreRising : List Version → Type 0
AreRising = plain.AreRising IsHeldAtMost

-- the last of these versions, where there is one
abbrev pub last_of : List Version → Option Version
last_of = plain.newest

-- the states in the last of these versions
abbrev pub states_last : List Version → List Held
states_last all = plain.states_in (plain.newest all)

-- the number of entries after which these are
abbrev pub entries_last : List Version → ℕ
entries_last all = plain.entries_in (plain.newest all)

-- so few states that one byte tells their number
abbrev pub IsSmall : Version → Type 0
IsSmall v = length v.states ≤ 255

abbrev pub coded_version : Coded Version
coded_version = code_by (ℕ × List Held) (coded× coded_ℕ coded_states) (λ v. (v.n, v.states)) (λ p. version p.0 p.1) (λ _. refl)
