-- The updates of a site, command by command.
use Rattle.std.proofs.Common.{◌≡◌, ℕ, ◌+◌, ◌<◌, ◌≤◌, Bool, true, false, nat_le, IsTrue, List, [], ◌∷◌, length, drop, Option, Some, None, Result, Ok, Err, refl, sym, ap, subst, ◌∙◌, arith}
use Rattle.std.specs.Prelude.{slice_get, is_some, zero, suc, FitsSigned}
use mir.Syntax.{w64}
use Rattle.std.proofs.lemmas.Bool.{le-ltb, lt-ltb, le-leb, lt-leb}
use Rattle.std.proofs.lemmas.List.{drop_all}
use Rattle.model_values.proofs.ListLaws.{drop-at}
use Rattle.model_values.specs.Size.{IsOfWidth}
use Rattle.model_values.specs.Value.{Val}
use Rattle.model_states.specs.Content.{size_of, row_limit}
use Rattle.model_states.specs.Counts.{count_at}
use Rattle.model_states.specs.Update as plain
use Rattle.model_graph.specs.Chain.{◌>>=◌, check}
use Rattle.model_graph.specs.Evaluation.{content_at}
use Rattle.model_graph.specs.Graph.{Kind, OrSet, GSet, Counter, MaxReg, Decl, kind_at, name_at}
use Rattle.model_graph.specs.Lawful.{shape_of}
use Rattle.model_world.specs.Command.{Command}
use Rattle.model_world.specs.Lawful.{opening_stage, stage_after, MayBeDone, AreLawful}
use Rattle.model_world.specs.World.{Peer, updated}
use Rattle.model_runs.specs.Held.{IsUpdate}
use Rattle.model_program.specs.declared.refusal.Refusal.TheVariants as shared
use Rattle.model_site.specs.Follows.{Gives}
use Rattle.model_site.specs.Site.{own_where, own, IsOwn, adds, removes, inserts, counts, raises, AreOwn, update_limit, update_done, done_by, updates_done, large_refused}
use Rattle.model_site.specs.declared.site_refusal.SiteRefusal.{SiteRefusal}
use Rattle.model_site.specs.declared.site_refusal.SiteRefusal.TheVariants.{Shared, UpdatesFull}
use Rattle.model_site.specs.declared.site_failure.SiteFailure.{SiteFailure}
use Rattle.model_site.specs.declared.site_failure.SiteFailure.TheVariants.{Refused, ReadFault, Memory}
use Rattle.model_site.proofs.SiteLaws.{own-is, own-told, one-more, none-left}
use Rattle.lasp_drive.specs.Node.{NodeView, MayUpdate}
use Rattle.lasp_state.specs.State.{op_of, IsOpOf}
use Rattle.lasp_state.specs.declared.op.Op.{Op}
use Rattle.lasp_state.specs.declared.op.Op.TheVariants as op
use Rattle.lasp_site.specs.Failure.{IsRefusal}
use Rattle.lasp_site.specs.Site.{IsSiteNode, IsSpelled, MayDo, IsOperationOf}
use Rattle.lasp_site.proofs.NodeLaws.{node-held}
use Rattle.lasp_site.proofs.StateLaws.{refusal-given}

-- ---- what a command does

pub where-known : (b : Bool) (x : ℕ) (o : plain.Op) → IsTrue (is_some (own_where b x o)) → own_where b x o ≡ Some (x, o)
where-known true x o known = refl
where-known false x o known = absurd cc

-- of a command that is an update of some node, its variable and its operation are told, also where the value is a copy
pub where-copied : (b : Bool) (x : ℕ) (make : Val → plain.Op) (v w : Val) → w ≡ v → IsTrue (is_some (own_where b x (make v))) → own_where b x (make v) ≡ Some (x, make w)
where-copied b x make v w same known = where-known b x (make v) known ∙ ap (λ (u : Val). Some (x, make u)) (sym same)

pub ruleset operations = (where-known, where-copied)

-- ---- what a node may do

-- what an operation of a site's own command is
abbrev Fits : List Decl → ℕ → plain.Op → Type 0
Fits g x (plain.Add v) = (x < length g) × (kind_at g x ≡ OrSet) × IsOfWidth 1 v
Fits g x (plain.Remove v) = (x < length g) × (kind_at g x ≡ OrSet) × IsOfWidth 1 v
Fits g x (plain.Insert v) = (x < length g) × (kind_at g x ≡ GSet) × IsOfWidth 1 v
Fits g x (plain.Inc by) = (x < length g) × (kind_at g x ≡ Counter)
Fits g x (plain.Max n) = (x < length g) × (kind_at g x ≡ MaxReg) × FitsSigned w64 n
Fits g x (plain.Join s) = ⊥

own-fits : (nodes p : ℕ) (g : List Decl) (k : Command) (x : ℕ) (o : plain.Op) → IsOwn p k x o → MayBeDone nodes (opening_stage g) k → Fits g x o
own-fits nodes p g _ _ _ adds h = (h.0.1, h.1, h.2.0)
own-fits nodes p g _ _ _ removes h = (h.0.1, h.1, h.2.0)
own-fits nodes p g _ _ _ inserts h = (h.0.1, h.1, h.2.0)
own-fits nodes p g _ _ _ counts h = (h.0.1, h.1)
own-fits nodes p g _ _ _ raises h = (h.0.1, h.1, h.2)

shape-is : (nodes : ℕ) (g : List Decl) (x : ℕ) (k : Kind) → kind_at g x ≡ k → shape_of nodes (kind_at g x) ≡ shape_of nodes k
shape-is nodes g x k e = ap (shape_of nodes) e

-- such an operation is one that the variable may get
op-update : (nodes p : ℕ) (g : List Decl) (x : ℕ) (o : Op) → Fits g x (op_of o) → IsSpelled o → IsUpdate nodes g x (op_of o)
op-update nodes p g x (op.Add v) h spelled = (h.1, record { size = h.2; parts = spelled })
op-update nodes p g x (op.Remove v) h spelled = (h.1, record { size = h.2; parts = spelled })
op-update nodes p g x (op.Insert v) h spelled = (h.1, record { size = h.2; parts = spelled })
op-update nodes p g x (op.Inc by) h spelled = h.1
op-update nodes p g x (op.Max n) h spelled = (h.1, h.2)
op-update nodes p g x (op.Join s) h spelled = absurd h

op-suits : (nodes p : ℕ) (g : List Decl) (x : ℕ) (o : Op) → p < nodes → Fits g x (op_of o) → IsOpOf o p (shape_of nodes (kind_at g x))
op-suits nodes p g x (op.Add v) member h = shape-is nodes g x OrSet h.1
op-suits nodes p g x (op.Remove v) member h = shape-is nodes g x OrSet h.1
op-suits nodes p g x (op.Insert v) member h = shape-is nodes g x GSet h.1
op-suits nodes p g x (op.Inc by) member h = (nodes, shape-is nodes g x Counter h.1, member)
op-suits nodes p g x (op.Max n) member h = shape-is nodes g x MaxReg h.1
op-suits nodes p g x (op.Join s) member h = absurd h

op-low : (g : List Decl) (x : ℕ) (o : plain.Op) → Fits g x o → x < length g
op-low g x (plain.Add v) h = h.0
op-low g x (plain.Remove v) h = h.0
op-low g x (plain.Insert v) h = h.0
op-low g x (plain.Inc by) h = h.0
op-low g x (plain.Max n) h = h.0
op-low g x (plain.Join s) h = absurd h

do-fits : (nodes p : ℕ) (g : List Decl) (x : ℕ) (o : Op) → MayDo nodes g p x o → Fits g x (op_of o)
do-fits nodes p g x o may = own-fits nodes p g may.k x (op_of o) may.own may.may

pub do-low : (nodes p : ℕ) (g : List Decl) (x : ℕ) (o : Op) → MayDo nodes g p x o → x < length g
do-low nodes p g x o may = op-low g x (op_of o) (do-fits nodes p g x o may)

pub do-update : (nodes p : ℕ) (g : List Decl) (x : ℕ) (o : Op) → MayDo nodes g p x o → IsUpdate nodes g x (op_of o)
do-update nodes p g x o may = op-update nodes p g x o (do-fits nodes p g x o may) may.spelled

pub may-update : (p : ℕ) (g : List Decl) (n : NodeView) (x : ℕ) (o : Op) → IsSiteNode p g n → MayDo n.among g p x o → count_at n.peer.counts p < 100000 → MayUpdate n x o
may-update p g n x o h may room = record {
  held = node-held p g n h;
  member = omega (arith, h.member, h.replica);
  var = subst (λ (ds : List Decl). x < length ds) (sym h.graph) (do-low n.among p g x o may);
  may = subst (λ (ds : List Decl). IsUpdate n.among ds x (op_of o)) (sym h.graph) (do-update n.among p g x o may);
  suits_it = subst (λ (ds : List Decl). IsOpOf o n.number (shape_of n.among (kind_at ds x))) (sym h.graph)
      (subst (λ (q : ℕ). IsOpOf o q (shape_of n.among (kind_at g x))) (sym h.replica) (op-suits n.among p g x o h.member (do-fits n.among p g x o may)));
  room = subst (λ (q : ℕ). count_at n.peer.counts q < 100000) (sym h.replica) room;
}

-- what is told of a site's own command, its node may do
pub told-may : (nodes p : ℕ) (g : List Decl) (k : Command) (u : ℕ × Op) → IsOperationOf k (Some u) → IsTrue (is_some (own p k)) → MayBeDone nodes (opening_stage g) k → MayDo nodes g p u.0 u.1
told-may nodes p g k u told known may = record { k = k; own = own-is p k (u.0, op_of u.1) (told.0 p known); may = may; spelled = told.1 }

pub told-done : {A : Type 0} (shown : A → Peer) (p : ℕ) (g : List Decl) (c : ℕ) (r : Peer) (k : Command) (u : ℕ × Op) (result : Result A SiteFailure) → IsOperationOf k (Some u) → IsTrue (is_some (own p k))
    → Gives shown (update_done p g c r (u.0, op_of u.1)) result → Gives shown (done_by p g c r (own p k)) result
told-done shown p g c r k u result told known gives = subst (λ (o : Option (ℕ × plain.Op)). Gives shown (done_by p g c r o) result) (sym (told.0 p known)) gives

pub told-none : (p : ℕ) (g : List Decl) (c : ℕ) (r : Peer) (k : Command) → IsOperationOf k None → done_by p g c r (own p k) ≡ Ok r
told-none p g c r k none = ap (λ (o : Option (ℕ × plain.Op)). done_by p g c r o) (none p)

-- ---- what is answered of an update

abbrev with_room : ℕ → List Decl → ℕ → Peer → ℕ × plain.Op → Bool → Result Peer SiteRefusal
with_room p g c r u b =
    check b (UpdatesFull c p) >>= (λ _. check (nat_le (size_of (content_at (updated p u.0 u.1 r).contents u.0)) row_limit) (Shared (shared.TooLarge c p (name_at g u.0))) >>= (λ _. Ok (updated p u.0 u.1 r)))

abbrev with_size : ℕ → List Decl → ℕ → Peer → ℕ × plain.Op → Bool → Result Peer SiteRefusal
with_size p g c r u b = check b (Shared (shared.TooLarge c p (name_at g u.0))) >>= (λ _. Ok (updated p u.0 u.1 r))

pub update-full : (p : ℕ) (g : List Decl) (c : ℕ) (r : Peer) (u : ℕ × plain.Op) → 100000 ≤ count_at r.counts p → update_done p g c r u ≡ Err (UpdatesFull c p)
update-full p g c r u full = ap (with_room p g c r u) (le-ltb (count_at r.counts p) update_limit full)

pub update-ok : (p : ℕ) (g : List Decl) (c x : ℕ) (o : plain.Op) (n new : NodeView) → IsSiteNode p g n → count_at n.peer.counts p < 100000 → new.peer ≡ updated n.number x o n.peer
    → size_of (content_at (updated n.number x o n.peer).contents x) ≤ row_limit → update_done p g c n.peer (x, o) ≡ Ok new.peer
update-ok p g c x o n new h room is small =
    ap (with_room p g c n.peer (x, o)) (lt-ltb (count_at n.peer.counts p) update_limit room)
    ∙ ap (with_size p g c n.peer (x, o)) (le-leb (size_of (content_at (updated p x o n.peer).contents x)) row_limit (subst (λ (q : ℕ). size_of (content_at (updated q x o n.peer).contents x) ≤ row_limit) h.replica small))
    ∙ ap (λ (r : Peer). Ok r) (sym (is ∙ ap (λ (q : ℕ). updated q x o n.peer) h.replica))

pub update-large : {A : Type 0} (shown : A → Peer) (p : ℕ) (g : List Decl) (c x y : ℕ) (o : plain.Op) (n : NodeView) (failure : SiteFailure) → IsSiteNode p g n → count_at n.peer.counts p < 100000
    → row_limit < size_of (content_at (updated n.number x o n.peer).contents x) → IsRefusal (Shared (shared.TooLarge c p (name_at g x))) failure → Gives shown (update_done p g c n.peer (x, o)) (Err failure)
update-large shown p g c x y o n failure h room large is =
    refusal-given shown (update_done p g c n.peer (x, o)) (Shared (shared.TooLarge c p (name_at g x))) failure
    (ap (with_room p g c n.peer (x, o)) (lt-ltb (count_at n.peer.counts p) update_limit room)
    ∙ ap (with_size p g c n.peer (x, o)) (lt-leb (size_of (content_at (updated p x o n.peer).contents x)) row_limit (subst (λ (q : ℕ). row_limit < size_of (content_at (updated q x o n.peer).contents x)) h.replica large))) is

pub ruleset updates = (may-update, do-low, do-update, update-full, update-ok)

-- ---- one command after the other

own-stays : (nodes p : ℕ) (g : List Decl) (k : Command) (x : ℕ) (o : plain.Op) → IsOwn p k x o → stage_after nodes (opening_stage g) k ≡ opening_stage g
own-stays nodes p g _ _ _ adds = refl
own-stays nodes p g _ _ _ removes = refl
own-stays nodes p g _ _ _ inserts = refl
own-stays nodes p g _ _ _ counts = refl
own-stays nodes p g _ _ _ raises = refl

-- each of a site's own commands may be done where the first may
pub may-each : (nodes p : ℕ) (g : List Decl) (ks : List Command) (i : ℕ) (k : Command) → slice_get ks i ≡ Some k → AreOwn p ks → AreLawful nodes (opening_stage g) ks → IsTrue (is_some (own p k)) × MayBeDone nodes (opening_stage g) k
may-each nodes p g [] i k at mine lawful = absurd cc
may-each nodes p g (j ∷ ks) zero k at mine lawful =
    let same : j ≡ k = cc in
    subst (λ (c : Command). IsTrue (is_some (own p c)) × MayBeDone nodes (opening_stage g) c) same (ap (λ (o : Option (ℕ × plain.Op)). is_some o) (own-told p j mine.0.0 mine.0.1 mine.0.2), lawful.0)
may-each nodes p g (j ∷ ks) (suc i) k at mine lawful =
    may-each nodes p g ks i k at mine.1 (subst (λ (s : _). AreLawful nodes s ks) (own-stays nodes p g j mine.0.0 mine.0.1 mine.0.2) lawful.1)

-- one command was done
pub commands-next : (p : ℕ) (g : List Decl) (c : ℕ) (r next : Peer) (ks : List Command) (i : ℕ) (k : Command) → slice_get ks i ≡ Some k → done_by p g c r (own p k) ≡ Ok next
    → updates_done p g c r (drop i ks) ≡ updates_done p g (c + 1) next (drop (i + 1) ks)
commands-next p g c r next ks i k at done =
    ap (updates_done p g c r) (drop-at ks i k at) ∙ one-more p g c r k (drop (i + 1) ks) ∙ ap (λ (a : Result Peer SiteRefusal). a >>= (λ after. updates_done p g (c + 1) after (drop (i + 1) ks))) done

-- or was refused
pub commands-stop : {A : Type 0} (shown : A → Peer) (p : ℕ) (g : List Decl) (c : ℕ) (r : Peer) (ks : List Command) (i : ℕ) (k : Command) (whole : Result Peer SiteRefusal) (failure : SiteFailure) → slice_get ks i ≡ Some k
    → updates_done p g c r (drop i ks) ≡ whole → Gives shown (done_by p g c r (own p k)) (Err failure) → Gives shown whole (Err failure)
commands-stop shown p g c r ks i k whole (Refused e) at is done =
    sym is ∙ ap (updates_done p g c r) (drop-at ks i k at) ∙ one-more p g c r k (drop (i + 1) ks) ∙ ap (λ (a : Result Peer SiteRefusal). a >>= (λ after. updates_done p g (c + 1) after (drop (i + 1) ks))) done
commands-stop shown p g c r ks i k whole (ReadFault f) at is done = absurd done
commands-stop shown p g c r ks i k whole Memory at is done = tt

-- none is left
pub commands-end : (p : ℕ) (g : List Decl) (c : ℕ) (r : Peer) (ks : List Command) (i : ℕ) → length ks ≤ i → updates_done p g c r (drop i ks) ≡ Ok r
commands-end p g c r ks i past = ap (updates_done p g c r) (drop_all i ks past) ∙ none-left p g c r

-- ---- what it shows

abbrev pub then_written : List ℕ → ℕ → List Decl → ℕ → Option ℕ → Result (List ℕ) SiteRefusal
then_written bytes p g c o = large_refused (λ x. Shared (shared.TooLarge c p (name_at g x))) o >>= (λ _. Ok bytes)
