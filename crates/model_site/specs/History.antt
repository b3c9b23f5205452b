-- Sites over time: calls one after the other, each of a site that goes on from its own last state and takes in any states that were ever written, however often and in whatever order.
use Rattle.std.specs.Prelude.{◌≡◌, ℕ, ◌+◌, ◌<◌, ◌==◌, if◌then◌else◌, List, [], ◌∷◌, ◌++◌, length, map, replicate, slice_index_or, slice_set, Option, Some, None, Ok}
use Rattle.std.specs.List.{AllByRecursion}
use Rattle.model_graph.specs.Graph.{Decl}
use Rattle.model_graph.specs.Message.{Message}
use Rattle.model_graph.specs.Spelling.{spelled}
use Rattle.model_world.specs.Delta.{Delta, deltas_at}
use Rattle.model_world.specs.Follow.{delta_of}
use Rattle.model_states.specs.Update.{Op}
use Rattle.model_world.specs.Command.{Command}
use Rattle.model_world.specs.Lawful.{opening_stage, AreLawful}
use Rattle.model_world.specs.World.{Peer, sent_number, updated, message_at}
use Rattle.model_site.specs.Site.{own, AreOwn, updates_done}
use Rattle.model_site.specs.Told.{heard}

-- a call: the site's number, the states that it takes in beside its own, each by its place among all that were written, and its updates
pub record SiteCall : Type 0 where
  pub site : ℕ
  pub files : List ℕ
  pub commands : List Command

-- all states that were written so far, and what each site's file holds: nothing, or the site's last state
pub record Sites : Type 0 where
  pub written : List Message
  pub kept : List (List Message)

-- before the first call
abbrev pub no_sites : ℕ → Sites
no_sites nodes = record { written = []; kept = replicate nodes [] }

-- the file of site p
abbrev pub kept_at : Sites → ℕ → List Message
kept_at sites p = slice_index_or sites.kept p []

-- the states that a call takes in
abbrev pub taken_by : Sites → SiteCall → List Message
taken_by sites k = kept_at sites k.site ++ map (sent_number sites.written) k.files

-- a call leads from what there was to what there is: its script is lawful and the site's, and the site writes the state that it comes to
pub record IsCalled (g : List Decl) (nodes : ℕ) (sites : Sites) (k : SiteCall) (next : Sites) : Type 0 where
  pub member : k.site < nodes
  pub files : AllByRecursion (λ i. i < length sites.written) k.files
  pub lawful : AreLawful nodes (opening_stage g) k.commands
  pub own : AreOwn k.site k.commands
  pub last : Peer
  pub done : updates_done k.site g 1 (heard g nodes (taken_by sites k)) k.commands ≡ Ok last
  pub written : next.written ≡ sites.written ++ message_at g last ∷ []
  pub kept : next.kept ≡ slice_set sites.kept k.site (message_at g last ∷ [])

-- what there is after some calls
pub data AreCalled (g : List Decl) (nodes : ℕ) : List SiteCall → Sites → Type 0 where
  none : AreCalled g nodes [] (no_sites nodes)
  more : {calls : List SiteCall} {sites next : Sites} {k : SiteCall} → AreCalled g nodes calls sites → IsCalled g nodes sites k next → AreCalled g nodes (calls ++ k ∷ []) next

-- A call on told files is this call among the sites: it took in the site's own state and those that were written, so what it wrote is the next of all states that were written, and the one that the site keeps.
pub record IsCallOf (g : List Decl) (nodes : ℕ) (sites : Sites) (k : SiteCall) (bytes : List ℕ) : Type 0 where
  pub next : Sites
  pub called : IsCalled g nodes sites k next
  pub written : spelled (message_at g called.last) ≡ bytes

-- how many updates site p made
abbrev pub updates_by : ℕ → List SiteCall → ℕ
updates_by p [] = 0
updates_by p (k ∷ calls) = (if p == k.site then length k.commands else 0) + updates_by p calls

-- the replica in the file of site p, and the replica that one state tells of
abbrev pub replica_of : List Decl → ℕ → Sites → ℕ → Peer
replica_of g nodes sites p = heard g nodes (kept_at sites p)

abbrev pub told_by : List Decl → ℕ → Message → Peer
told_by g nodes m = heard g nodes (m ∷ [])

-- ---- what updates brought

-- what a command of site p brings to its replica, and the replica behind it
abbrev pub delta_by : ℕ → Peer → Option (ℕ × Op) → List Delta
delta_by p r None = []
delta_by p r (Some u) = delta_of r p u.0 u.1 ∷ []

abbrev pub after_own : ℕ → Peer → Option (ℕ × Op) → Peer
after_own p r None = r
after_own p r (Some u) = updated p u.0 u.1 r

-- what commands of site p bring, one after the other
unfoldable pub deltas_by : ℕ → Peer → List Command → List Delta
deltas_by p r [] = []
deltas_by p r (k ∷ rest) = delta_by p r (own p k) ++ deltas_by p (after_own p r (own p k)) rest

-- what the updates of each site brought after a call, where this is what they brought before it
abbrev pub brought_after : List Decl → ℕ → Sites → SiteCall → List (List Delta) → List (List Delta)
brought_after g nodes sites k all = slice_set all k.site (deltas_at all k.site ++ deltas_by k.site (heard g nodes (taken_by sites k)) k.commands)

-- what there is after some calls, and what the updates of each site brought, its first update first
pub data HaveBrought (g : List Decl) (nodes : ℕ) : List SiteCall → Sites → List (List Delta) → Type 0 where
  nothing : HaveBrought g nodes [] (no_sites nodes) (replicate nodes [])
  brings : {calls : List SiteCall} {sites next : Sites} {k : SiteCall} {all : List (List Delta)} → HaveBrought g nodes calls sites all → IsCalled g nodes sites k next
      → HaveBrought g nodes (calls ++ k ∷ []) next (brought_after g nodes sites k all)
