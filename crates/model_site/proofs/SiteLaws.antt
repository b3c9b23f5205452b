-- Which commands are a site's own, and how states and updates are refused.
use Rattle.std.proofs.Common.{refl, sym, ap, subst, ◌∙◌, arith}
use Rattle.std.specs.Prelude.{◌≡◌, ◌⊎◌, ◌==◌, ◌++◌, ℕ, suc, ◌+◌, Bool, true, false, nat_lt, nat_le, if◌then◌else◌, List, [], ◌∷◌, length, Option, Some, None, is_some, Result, Ok, Err}
use Rattle.std.proofs.lemmas.Bool.{eqb-true, eq-eqb, ltb-true, ltb-false, leb-false}
use mathlib.Core.Logic.{inl, inr}
use Rattle.model_states.specs.Content.{size_of, row_limit}
use Rattle.model_states.specs.Counts.{count_at}
use Rattle.model_states.specs.Update.{Op, Add, Remove, Insert, Inc, Max}
use Rattle.model_graph.specs.Chain.{◌>>=◌, check, refusing}
use Rattle.model_graph.specs.Graph.{Decl, name_at}
use Rattle.model_graph.specs.Evaluation.{content_at, first_large}
use Rattle.model_graph.specs.Message.{Message}
use Rattle.model_wire.specs.Message.{decoded}
use Rattle.model_wire.specs.declared.wire_why.WireWhy.{WireWhy}
use Rattle.model_world.specs.Command as command
use Rattle.model_world.specs.Command.{Command}
use Rattle.model_world.specs.World.{Peer, updated, delivered}
use Rattle.model_program.specs.Merge.{may_take}
use Rattle.model_program.specs.Told.{IsFileTold}
use Rattle.model_program.specs.declared.refusal.Refusal.TheVariants as shared
use Rattle.model_program.specs.declared.state_why.StateWhy.TheVariants.{WrongGraph}
use Rattle.model_program.proofs.MergeLaws.{take-Decides}
use Rattle.model_site.specs.Cause.{IsFileRefused, no_message, wrong_graph, source_large, IsUpdateRefused, updates_full, update_large}
use Rattle.model_site.specs.Site.{own_where, own, first_other, IsOwn, adds, removes, inserts, counts, raises, AreOwn, IsFirstOther, state_refused, large_refused, message_taken, file_taken, update_limit, update_done, done_by, updates_done}
use Rattle.model_site.specs.Told.{IsTaken}
use Rattle.model_site.specs.declared.site_refusal.SiteRefusal.{SiteRefusal}
use Rattle.model_site.specs.declared.site_refusal.SiteRefusal.TheVariants.{Shared, FileTooLarge, UpdatesFull}

-- ---- a site's own commands

where-some : (b : Bool) (x : ℕ) (op : Op) (u : ℕ × Op) → own_where b x op ≡ Some u → (b ≡ true) × ((x, op) ≡ u)
where-some true x op u e = (refl, cc)
where-some false x op u e = absurd cc

-- an update that is told is one of the replica
own-one : (p q x : ℕ) (op : Op) (u : ℕ × Op) (k : ℕ → Command) → IsOwn p (k p) x op → own_where (q == p) x op ≡ Some u → IsOwn p (k q) u.0 u.1
own-one p q x op u k is e =
    let parts = where-some (q == p) x op u e in
    subst (λ (w : ℕ × Op). IsOwn p (k q) w.0 w.1) parts.1 (subst (λ (r : ℕ). IsOwn p (k r) x op) (sym (eqb-true q p parts.0)) is)

pub own-is : (p : ℕ) (k : Command) (u : ℕ × Op) → own p k ≡ Some u → IsOwn p k u.0 u.1
own-is p (command.Add q x v) u e = own-one p q x (Add v) u (λ r. command.Add r x v) adds e
own-is p (command.Remove q x v) u e = own-one p q x (Remove v) u (λ r. command.Remove r x v) removes e
own-is p (command.Insert q x v) u e = own-one p q x (Insert v) u (λ r. command.Insert r x v) inserts e
own-is p (command.Inc q x n) u e = own-one p q x (Inc n) u (λ r. command.Inc r x n) counts e
own-is p (command.Max q x n) u e = own-one p q x (Max n) u (λ r. command.Max r x n) raises e
own-is p (command.Mark q x) u e = absurd cc
own-is p (command.Bind q x m) u e = absurd cc
own-is p (command.Send q) u e = absurd cc
own-is p (command.Deliver q i) u e = absurd cc
own-is p command.Sync u e = absurd cc
own-is p command.Settle u e = absurd cc
own-is p (command.Print q x) u e = absurd cc
own-is p (command.Read q x until) u e = absurd cc
own-is p (command.Await q x until) u e = absurd cc
own-is p (command.Declare d) u e = absurd cc

where-itself : (p x : ℕ) (op : Op) → own_where (p == p) x op ≡ Some (x, op)
where-itself p x op = ap (λ (b : Bool). own_where b x op) (eq-eqb p p refl)

-- an update of the replica is told
pub own-told : (p : ℕ) (k : Command) (x : ℕ) (op : Op) → IsOwn p k x op → own p k ≡ Some (x, op)
own-told p _ _ _ (adds {x = x} {v = v}) = where-itself p x (Add v)
own-told p _ _ _ (removes {x = x} {v = v}) = where-itself p x (Remove v)
own-told p _ _ _ (inserts {x = x} {v = v}) = where-itself p x (Insert v)
own-told p _ _ _ (counts {x = x} {k = k}) = where-itself p x (Inc k)
own-told p _ _ _ (raises {x = x} {n = n}) = where-itself p x (Max n)

own-none : (p : ℕ) (k : Command) → own p k ≡ None → (x : ℕ) (op : Op) → ¬ IsOwn p k x op
own-none p k e x op is = some-none (own-told p k x op is) e where
  some-none : own p k ≡ Some (x, op) → own p k ≡ None → ⊥
  some-none h e = cc

-- no command is another's, or this is the first that is
data IsLooked (p number : ℕ) (commands : List Command) : Option ℕ → Type 0 where
  all_own : AreOwn p commands → IsLooked p number commands None
  has_other : {place : ℕ} → IsFirstOther p commands place → IsLooked p number commands (Some (number + place))

looked-none : (p number : ℕ) → IsLooked p number [] (first_other p number [])
unfolding first_other
looked-none p number = all_own tt

looked-later : (p number : ℕ) (k : Command) (rest : List Command) (u : ℕ × Op) (o : Option ℕ) → own p k ≡ Some u → IsLooked p (number + 1) rest o → IsLooked p number (k ∷ rest) o
looked-later p number k rest u None e (all_own own) = all_own ((u.0, u.1, own-is p k u e), own)
looked-later p number k rest u _ e (has_other {place = place} first) =
    subst (λ (n : ℕ). IsLooked p number (k ∷ rest) (Some n)) (let same : number + suc place ≡ number + 1 + place = omega arith in same)
    (has_other (record { other = first.other; at = first.at; foreign = first.foreign; before = ((u.0, u.1, own-is p k u e), first.before) }))

looked-here : (p number : ℕ) (k : Command) (rest : List Command) → own p k ≡ None → IsLooked p number (k ∷ rest) (Some number)
looked-here p number k rest e =
    subst (λ (n : ℕ). IsLooked p number (k ∷ rest) (Some n)) (let same : number + 0 ≡ number = omega arith in same)
    (has_other (record { other = k; at = refl; foreign = own-none p k e; before = tt }))

mutual-step : (p number : ℕ) (k : Command) (rest : List Command) (o : Option (ℕ × Op)) → own p k ≡ o → IsLooked p (number + 1) rest (first_other p (number + 1) rest)
    → IsLooked p number (k ∷ rest) (if is_some o then first_other p (number + 1) rest else Some number)
mutual-step p number k rest (Some u) e later = looked-later p number k rest u (first_other p (number + 1) rest) e later
mutual-step p number k rest None e later = looked-here p number k rest e

looked : (p number : ℕ) (commands : List Command) → IsLooked p number commands (first_other p number commands)
unfolding first_other
looked p number [] = looked-none p number
looked p number (k ∷ rest) = mutual-step p number k rest (own p k) refl (looked p (number + 1) rest)

looked-own : (p number : ℕ) (commands : List Command) (o : Option ℕ) → IsLooked p number commands o → o ≡ None → AreOwn p commands
looked-own p number commands _ (all_own own) e = own
looked-own p number commands _ (has_other first) e = absurd cc

looked-other : (p number m : ℕ) (commands : List Command) (o : Option ℕ) → IsLooked p number commands o → o ≡ Some m → (place : ℕ) × (m ≡ number + place) × IsFirstOther p commands place
looked-other p number m commands _ (all_own own) e = absurd cc
looked-other p number m commands _ (has_other {place = place} first) e = (place, (let same : m ≡ number + place = cc in same), first)

-- where no command is another's, all are the site's
pub none-other : (p number : ℕ) (commands : List Command) → first_other p number commands ≡ None → AreOwn p commands
none-other p number commands e = looked-own p number commands (first_other p number commands) (looked p number commands) e

pub some-other : (p number m : ℕ) (commands : List Command) → first_other p number commands ≡ Some m → (place : ℕ) × (m ≡ number + place) × IsFirstOther p commands place
some-other p number m commands e = looked-other p number m commands (first_other p number commands) (looked p number commands) e

-- ---- tests

pub check-refused : {A : Type 0} (b : Bool) (e x : SiteRefusal) (f : Unit {0} → Result A SiteRefusal) → (check b e >>= f) ≡ Err x → ((b ≡ false) × (e ≡ x)) ⊎ ((b ≡ true) × (f tt ≡ Err x))
check-refused true e x f h = inr (refl, h)
check-refused false e x f h = inl (refl, cc)

pub check-passed : {A : Type 0} (b : Bool) (e : SiteRefusal) (f : Unit {0} → Result A SiteRefusal) (a : A) → (check b e >>= f) ≡ Ok a → (b ≡ true) × (f tt ≡ Ok a)
check-passed true e f a h = (refl, h)
check-passed false e f a h = absurd cc

pub large-found : {A : Type 0} (refused : ℕ → SiteRefusal) (o : Option ℕ) (x : SiteRefusal) (f : Unit {0} → Result A SiteRefusal) → (large_refused refused o >>= f) ≡ Err x → ((y : ℕ) × (o ≡ Some y) × (refused y ≡ x)) ⊎ ((o ≡ None) × (f tt ≡ Err x))
large-found refused None x f h = inr (refl, h)
large-found refused (Some y) x f h = inl (y, refl, cc)

pub large-passed : {A : Type 0} (refused : ℕ → SiteRefusal) (o : Option ℕ) (f : Unit {0} → Result A SiteRefusal) (a : A) → (large_refused refused o >>= f) ≡ Ok a → (o ≡ None) × (f tt ≡ Ok a)
large-passed refused None f a h = (refl, h)
large-passed refused (Some y) f a h = absurd cc

pub ok-same : {A : Type 0} (a b : A) → ◌≡◌ {A = Result A SiteRefusal} (Ok a) (Ok b) → a ≡ b
ok-same a b e = cc

-- ---- states

module _ (content : List ℕ → Option (List ℕ)) (words : List (List ℕ)) (p : ℕ) (g : List Decl) (f : ℕ) (r : Peer) (bytes : List ℕ) (file : IsFileTold content words f bytes) where
  abbrev then_small : Message → Unit {0} → Result Peer SiteRefusal
  then_small m u = large_refused (λ x. FileTooLarge f p (name_at g x)) (first_large 0 (delivered g m r).contents) >>= λ _. Ok (delivered g m r)

  taken-refused : (m : Message) (e : SiteRefusal) → decoded bytes ≡ Ok m → message_taken p g f r m ≡ Err e → IsFileRefused content words p g f r e
  taken-refused m e read h = first (check-refused (may_take g r m) (Shared (shared.State f 0 WrongGraph)) e (then_small m) h) where
    second : may_take g r m ≡ true → ((x : ℕ) × (first_large 0 (delivered g m r).contents ≡ Some x) × (FileTooLarge f p (name_at g x) ≡ e)) ⊎ ((first_large 0 (delivered g m r).contents ≡ None) × (Ok (delivered g m r) ≡ Err e)) → IsFileRefused content words p g f r e
    second takes (inl (x, large, is)) = let parts = (take-Decides g r m).0 takes in subst (IsFileRefused content words p g f r) is (source_large file read parts.0 parts.1 large)
    second takes (inr (small, h)) = absurd cc

    first : ((may_take g r m ≡ false) × (Shared (shared.State f 0 WrongGraph) ≡ e)) ⊎ ((may_take g r m ≡ true) × (then_small m tt ≡ Err e)) → IsFileRefused content words p g f r e
    first (inl (other, is)) = subst (IsFileRefused content words p g f r) is (wrong_graph file read (λ fits. both ((take-Decides g r m).1 fits) other)) where
      both : may_take g r m ≡ true → may_take g r m ≡ false → ⊥
      both t o = cc
    first (inr (takes, h)) = second takes (large-found (λ x. FileTooLarge f p (name_at g x)) (first_large 0 (delivered g m r).contents) e (λ _. Ok (delivered g m r)) h)

  taken-passed : (m : Message) (next : Peer) → decoded bytes ≡ Ok m → message_taken p g f r m ≡ Ok next → IsTaken content words g f r m × (next ≡ delivered g m r)
  taken-passed m next read h =
      let first = check-passed (may_take g r m) (Shared (shared.State f 0 WrongGraph)) (then_small m) next h in
      let second = large-passed (λ x. FileTooLarge f p (name_at g x)) (first_large 0 (delivered g m r).contents) (λ _. Ok (delivered g m r)) next first.1 in
      let parts = (take-Decides g r m).0 first.0 in
      (record { bytes = bytes; file = file; read = read; graph = parts.0; nodes = parts.1; small = second.0 }, sym (ok-same (delivered g m r) next second.1))

  abbrev after_reading : Result Message (ℕ × WireWhy) → Result Peer SiteRefusal
  after_reading read = refusing (state_refused f) read >>= λ m. message_taken p g f r m

  file-is : file_taken p g f r bytes ≡ after_reading (decoded bytes)
  unfolding file_taken
  file-is = refl

  read-refused : (e : SiteRefusal) (read : Result Message (ℕ × WireWhy)) → decoded bytes ≡ read → after_reading read ≡ Err e → IsFileRefused content words p g f r e
  read-refused e (Ok m) is h = taken-refused m e is h
  read-refused e (Err w) is h = subst (IsFileRefused content words p g f r) (let same : state_refused f w ≡ e = cc in same) (no_message file is)

  read-passed : (next : Peer) (read : Result Message (ℕ × WireWhy)) → decoded bytes ≡ read → after_reading read ≡ Ok next → (m : Message) × IsTaken content words g f r m × (next ≡ delivered g m r)
  read-passed next (Ok m) is h = let it = taken-passed m next is h in (m, it.0, it.1)
  read-passed next (Err w) is h = absurd cc

  pub file-refused : (e : SiteRefusal) → file_taken p g f r bytes ≡ Err e → IsFileRefused content words p g f r e
  file-refused e h = read-refused e (decoded bytes) refl (sym file-is ∙ h)

  pub file-passed : (next : Peer) → file_taken p g f r bytes ≡ Ok next → (m : Message) × IsTaken content words g f r m × (next ≡ delivered g m r)
  file-passed next h = read-passed next (decoded bytes) refl (sym file-is ∙ h)

-- ---- updates

pub none-left : (p : ℕ) (g : List Decl) (c : ℕ) (r : Peer) → updates_done p g c r [] ≡ Ok r
unfolding updates_done
none-left p g c r = refl

pub one-more : (p : ℕ) (g : List Decl) (c : ℕ) (r : Peer) (k : Command) (rest : List Command) → updates_done p g c r (k ∷ rest) ≡ (done_by p g c r (own p k) >>= λ next. updates_done p g (c + 1) next rest)
unfolding updates_done
one-more p g c r k rest = refl

-- the updates were refused at one of the commands
pub record AreRefused (p : ℕ) (g : List Decl) (c : ℕ) (r : Peer) (commands : List Command) (e : SiteRefusal) : Type 0 where
  pub done : List Command
  pub k : Command
  pub rest : List Command
  pub last : Peer
  pub all : done ++ k ∷ rest ≡ commands
  pub reached : updates_done p g c r done ≡ Ok last
  pub refused : done_by p g (c + length done) last (own p k) ≡ Err e

updates-here : (p : ℕ) (g : List Decl) (c : ℕ) (r : Peer) (k : Command) (rest : List Command) (e : SiteRefusal) → done_by p g c r (own p k) ≡ Err e → AreRefused p g c r (k ∷ rest) e
updates-here p g c r k rest e h = record { done = []; k = k; rest = rest; last = r; all = refl; reached = none-left p g c r; refused = ap (λ (n : ℕ). done_by p g n r (own p k)) (let same : c + 0 ≡ c = omega arith in same) ∙ h }

updates-later : (p : ℕ) (g : List Decl) (c : ℕ) (r next : Peer) (k : Command) (rest : List Command) (e : SiteRefusal) → done_by p g c r (own p k) ≡ Ok next → AreRefused p g (c + 1) next rest e → AreRefused p g c r (k ∷ rest) e
updates-later p g c r next k rest e is later = record {
  done = k ∷ later.done;
  k = later.k;
  rest = later.rest;
  last = later.last;
  all = ap (λ (ks : List Command). k ∷ ks) later.all;
  reached = one-more p g c r k later.done ∙ ap (λ (a : Result Peer SiteRefusal). a >>= λ after. updates_done p g (c + 1) after later.done) is ∙ later.reached;
  refused = ap (λ (n : ℕ). done_by p g n later.last (own p later.k)) (let same : c + suc (length later.done) ≡ c + 1 + length later.done = omega arith in same) ∙ later.refused;
}

pub updates-refused : (p : ℕ) (g : List Decl) (c : ℕ) (r : Peer) (commands : List Command) (e : SiteRefusal) → updates_done p g c r commands ≡ Err e → AreRefused p g c r commands e
updates-refused p g c r [] e h = absurd (none (sym (none-left p g c r) ∙ h)) where
  none : ◌≡◌ {A = Result Peer SiteRefusal} (Ok r) (Err e) → ⊥
  none h = cc
updates-refused p g c r (k ∷ rest) e h = step (λ next later. updates-refused p g (c + 1) next rest e later) (done_by p g c r (own p k)) refl (sym (one-more p g c r k rest) ∙ h) where
  step : ((next : Peer) → updates_done p g (c + 1) next rest ≡ Err e → AreRefused p g (c + 1) next rest e) → (a : Result Peer SiteRefusal) → done_by p g c r (own p k) ≡ a → (a >>= λ next. updates_done p g (c + 1) next rest) ≡ Err e → AreRefused p g c r (k ∷ rest) e
  step go_on (Ok next) is h = updates-later p g c r next k rest e is (go_on next h)
  step go_on (Err x) is h = updates-here p g c r k rest e (is ∙ h)

-- why one update is refused
pub update-refused : (p : ℕ) (g : List Decl) (c : ℕ) (r : Peer) (u : ℕ × Op) (e : SiteRefusal) → update_done p g c r u ≡ Err e → IsUpdateRefused p g r u.0 u.1 c e
update-refused p g c r u e h = first (check-refused (nat_lt (count_at r.counts p) update_limit) (UpdatesFull c p) e then_small h) where
  after : Peer
  after = updated p u.0 u.1 r

  then_small : Unit {0} → Result Peer SiteRefusal
  then_small x = check (nat_le (size_of (content_at after.contents u.0)) row_limit) (Shared (shared.TooLarge c p (name_at g u.0))) >>= λ _. Ok after

  second : nat_lt (count_at r.counts p) update_limit ≡ true → ((nat_le (size_of (content_at after.contents u.0)) row_limit ≡ false) × (Shared (shared.TooLarge c p (name_at g u.0)) ≡ e)) ⊎ ((nat_le (size_of (content_at after.contents u.0)) row_limit ≡ true) × (Ok after ≡ Err e))
      → IsUpdateRefused p g r u.0 u.1 c e
  second room (inl (large, is)) = subst (IsUpdateRefused p g r u.0 u.1 c) is (update_large (ltb-true (count_at r.counts p) update_limit room) (leb-false (size_of (content_at after.contents u.0)) row_limit large))
  second room (inr (small, h)) = absurd cc

  first : ((nat_lt (count_at r.counts p) update_limit ≡ false) × (UpdatesFull c p ≡ e)) ⊎ ((nat_lt (count_at r.counts p) update_limit ≡ true) × (then_small tt ≡ Err e)) → IsUpdateRefused p g r u.0 u.1 c e
  first (inl (full, is)) = subst (IsUpdateRefused p g r u.0 u.1 c) is (updates_full (ltb-false (count_at r.counts p) update_limit full))
  first (inr (room, h)) = second room (check-refused (nat_le (size_of (content_at after.contents u.0)) row_limit) (Shared (shared.TooLarge c p (name_at g u.0))) e (λ _. Ok after) h)
