-- How what a core's calls answer is seen in the sources and counts of its node.
use Rattle.std.proofs.Common.{suc, ℕ, ◌≡◌, ◌+◌, ◌-◌, ◌≤◌, ◌<◌, Bool, true, false, not, nat_lt, nat_le, if◌then◌else◌, refl, sym, ap, subst, ◌∙◌, arith}
use Rattle.std.specs.Prelude.{List, [], ◌∷◌, ◌++◌, length, take, slice_get, Option, Some, None, Result, Ok, Err, OnOk, OnErr, IfOk, IsTrue}
use Rattle.std.proofs.lemmas.Bool.Decides.{nat_tests}
use Rattle.model_states.specs.Counts.{count_at}
use Rattle.model_states.specs.Content.{Content, least, join_contents, size_of, row_limit}
use Rattle.model_states.specs.Threshold.{Shape, set, grow, counter, register, fold, is_shape}
use Rattle.model_states.specs.Update as plain
use Rattle.model_graph.specs.Graph.{Decl, is_source, kind_at}
use Rattle.model_graph.specs.Evaluation.{content_at, first_large}
use Rattle.model_graph.specs.Lawful.{shape_of, variable_limit}
use Rattle.model_graph.proofs.PlaceLaws.{at-set, from-nothing, length-push}
use Rattle.model_graph.specs.Message.{Message, sent_at, source_number, brought, with_gain, gained}
use Rattle.model_graph.proofs.MessageLaws.{gained-length, gained-at}
use Rattle.model_readings.specs.Lawful.{IsGraph, IsNext}
use Rattle.model_world.specs.World.{updated, delivered, extended}
use Rattle.model_runs.specs.Held.{IsSentTo, IsUpdate}
use Rattle.model_runs.specs.Part.{BringsAsMuch}
use Rattle.model_runs.proofs.SourceLaws.{update-source}
use Rattle.model_journal.specs.Entry as model
use Rattle.model_journal.specs.Entry.{Frame, entry}
use Rattle.model_journal.specs.Journal.{graph, vals, val, counts, sources}
use Rattle.model_journal.specs.Legal.{IsLegal}
use Rattle.model_journal.proofs.CleanLaws.{vals-length}
use Rattle.model_core.specs.Core.{Core, entered}
use Rattle.model_core.specs.Peer.{peer_of}
use Rattle.model_core.proofs.MessageLaws.{sent-first}
use Rattle.model_core.proofs.PeerLaws.{graph-extended, peer-updated, peer-delivered, peer-extended}
use Rattle.model_core.proofs.SourceLaws.{sources-length, sources-source, sources-derived}
use Rattle.model_core.proofs.ValidLaws.{val-small}
use Rattle.lasp_state.specs.declared.op.Op.{Op}
use Rattle.lasp_state.specs.declared.op.Op.TheVariants as op
use Rattle.lasp_state.specs.State.{op_of, IsOpOf}
use Rattle.lasp_drive.specs.Node.{Updates, Delivers}
use Rattle.lasp_replica.specs.declared.refused.UpdateRefused.{UpdateRefused}
use Rattle.lasp_replica.specs.declared.refused.UpdateRefused.TheVariants as update
use Rattle.lasp_replica.specs.declared.refused.DeliverRefused.{DeliverRefused}
use Rattle.lasp_replica.specs.declared.refused.DeliverRefused.TheVariants as deliver
use Rattle.lasp_core.specs.Core.{declared}
use Rattle.lasp_replica.specs.Replica.{shape_for, is_for, update_check, or_too_many, update_refusal, IsAnswered, IsDelivered}

-- ---- the same node

-- the core of the same replica among as many nodes, with this graph
pub record IsSame (g : List Decl) (old new : Core) : Type 0 where
  pub frame : new.frame ≡ old.frame
  pub graph_is : graph new.frame new.entries ≡ g

-- an entry that declares nothing, or none
pub same-graph : {A E : Type 0} (r : Result A E) (old new : Core) (e : model.Entry) → graph old.frame (old.entries ++ e ∷ []) ≡ graph old.frame old.entries
    → OnOk r (new ≡ entered e old) → OnErr r (new ≡ old) → IsSame (graph old.frame old.entries) old new
same-graph (Ok a) old new e kept is none = subst (IsSame (graph old.frame old.entries) old) (sym is) (record { frame = refl; graph_is = kept })
same-graph (Err why) old new e kept none is = subst (IsSame (graph old.frame old.entries) old) (sym is) (record { frame = refl; graph_is = refl })

pub if-ok : {A E : Type 0} (P Q : A → Type 0) (r : Result A E) → ((a : A) → P a → Q a) → IfOk r P → IfOk r Q
if-ok P Q (Ok a) f p = f a p
if-ok P Q (Err e) f p = tt

pub on-ok : {A E P Q : Type 0} (r : Result A E) → (P → Q) → OnOk r P → OnOk r Q
on-ok (Ok a) f p = f p
on-ok (Err e) f p = tt

-- ---- declarations

-- the declaration behind the others
pub record IsLast (g : List Decl) (d e : Decl) : Type 0 where
  pub same : e ≡ d
  pub next : IsNext g e
  pub room : length g < variable_limit

slice-last : (g : List Decl) (d : Decl) → slice_get (g ++ d ∷ []) (length g) ≡ Some d
slice-last [] d = refl
slice-last (c ∷ g) d = slice-last g d

take-all : (g : List Decl) (d : Decl) → take (length g) (g ++ d ∷ []) ≡ g
take-all [] d = refl
take-all (c ∷ g) d = ap (λ (ds : List Decl). c ∷ ds) (take-all g d)

pub last-decl : (g longer ours theirs : List Decl) (d e : Decl) (n : ℕ) → longer ≡ g ++ d ∷ [] → ours ≡ longer → theirs ≡ longer → IsGraph theirs → n ≡ length theirs → slice_get ours (n - 1) ≡ Some e → IsLast g d e
last-decl g longer ours theirs d e n is our their lawful many at = record { same = same; next = next; room = room } where
  long : length theirs ≡ length g + 1
  long = ap (λ (ds : List Decl). length ds) (their ∙ is) ∙ length-push g d

  place : n - 1 ≡ length g
  place = omega (arith, many, long)

  found : Some e ≡ Some d
  found = sym at ∙ (λ j. slice_get ((our ∙ is) j) (place j)) ∙ slice-last g d

  same : e ≡ d
  same = let both : Some e ≡ Some d = found in cc

  next : IsNext g e
  next = subst (λ (ds : List Decl). IsNext ds e) ((λ j. take (place j) ((their ∙ is) j)) ∙ take-all g d) (lawful.each (n - 1) e ((λ j. slice_get ((their ∙ sym our) j) (n - 1)) ∙ at))

  room : length g < variable_limit
  room = omega (arith, long, lawful.few)

pub extended-same : (old new : Core) (by : ℕ) (e d : Decl) (longer : List Decl) → longer ≡ graph old.frame old.entries ++ d ∷ [] → e ≡ d → new ≡ declared (entry by (model.Extend e)) old → IsSame longer old new
extended-same old new by e d longer is same done = subst (IsSame longer old) (sym done) (record {
  frame = refl;
  graph_is = graph-extended old.frame old.entries (entry by (model.Extend e)) e refl ∙ ap (λ (c : Decl). graph old.frame old.entries ++ c ∷ []) same ∙ sym is;
})

pub extended-peer : (old new : Core) (by : ℕ) (e d : Decl) → IsLegal old.frame old.entries → e ≡ d → new ≡ declared (entry by (model.Extend e)) old
    → peer_of new.frame new.entries ≡ extended old.frame.nodes d (peer_of old.frame old.entries)
extended-peer old new by e d legal same done =
    ap (λ (c : Core). peer_of c.frame c.entries) done
    ∙ peer-extended old.frame old.entries legal (entry by (model.Extend e)) e refl
    ∙ ap (λ (c : Decl). extended old.frame.nodes c (peer_of old.frame old.entries)) same

-- ---- deliveries

-- what brings as much to a node's sources brings as much to its core
pub brings-core : (X : Frame) (h : List model.Entry) (m part : Message) → BringsAsMuch (graph X h) (peer_of X h).contents m part → BringsAsMuch (graph X h) (vals X h) m part
brings-core X h m part much = record {
  wide = much.wide;
  begins = much.begins;
  brings = λ x low source.
      subst (λ (s : Content). join_contents s (sent_at part.sources (source_number (graph X h) x)) ≡ join_contents s (sent_at m.sources (source_number (graph X h) x))) (sources-source (graph X h) (vals X h) x low source) (much.brings x low source);
}

-- a message that is sent to a graph is one of it
pub not-wrong : (nodes : ℕ) (g : List Decl) (contents : List Content) (m : Message) (why : DeliverRefused) → why ≡ deliver.WrongGraph → IsSentTo nodes g m → IsDelivered {A = Unit {0}} nodes g contents m (Err why) → ⊥
not-wrong nodes g contents m why is sent answer =
    (subst (λ (e : DeliverRefused). IsDelivered {A = Unit {0}} nodes g contents m (Err e)) is answer) (sent.wide, sent-first nodes g m sent)

large-alike : (n : ℕ) (ss ts : List Content) → length ss ≡ length ts
    → ((x : ℕ) → x < length ss → nat_lt row_limit (size_of (content_at ss x)) ≡ nat_lt row_limit (size_of (content_at ts x))) → first_large n ss ≡ first_large n ts
large-alike n [] [] long same = refl
large-alike n [] (t ∷ ts) long same = absurd (omega (arith, long))
large-alike n (s ∷ ss) [] long same = absurd (omega (arith, long))
large-alike n (s ∷ ss) (t ∷ ts) long same =
    let rest = large-alike (n + 1) ss ts (omega (arith, long)) (λ x low. same (suc x) (omega (arith, low))) in
    let here = same 0 (omega arith) in
    λ i. if here i then Some n else rest i

small-test : (s : Content) → size_of s ≤ row_limit → nat_lt row_limit (size_of s) ≡ false
small-test s small = grind (arith, nat_tests, small)

-- whether a message makes a variable too large is told by the sources alone
pub gained-large : (X : Frame) (h : List model.Entry) → IsLegal X h → (m : Message) → first_large 0 (gained (brought (graph X h) m) 0 (sources X h)) ≡ first_large 0 (gained (brought (graph X h) m) 0 (vals X h))
gained-large X h legal m = large-alike 0 (gained (brought g m) 0 (sources X h)) (gained (brought g m) 0 (vals X h)) long each where
  g : List Decl
  g = graph X h

  few : length (vals X h) ≡ length g
  few = vals-length X h legal

  source : length (sources X h) ≡ length g
  source = sources-length g (vals X h) few

  long : length (gained (brought g m) 0 (sources X h)) ≡ length (gained (brought g m) 0 (vals X h))
  long = omega (arith, few, source, gained-length (brought g m) 0 (sources X h), gained-length (brought g m) 0 (vals X h))

  each : (x : ℕ) → x < length (gained (brought g m) 0 (sources X h)) → nat_lt row_limit (size_of (content_at (gained (brought g m) 0 (sources X h)) x)) ≡ nat_lt row_limit (size_of (content_at (gained (brought g m) 0 (vals X h)) x))
  each x low = choose (is_source (kind_at g x)) refl where
    within : x < length g
    within = omega (arith, low, source, gained-length (brought g m) 0 (sources X h))

    ours : content_at (gained (brought g m) 0 (sources X h)) x ≡ with_gain (content_at (sources X h) x) (brought g m x)
    ours = gained-at (brought g m) 0 (sources X h) x (omega (arith, within, source)) ∙ ap (λ (i : ℕ). with_gain (content_at (sources X h) x) (brought g m i)) (sym (from-nothing x))

    theirs : content_at (gained (brought g m) 0 (vals X h)) x ≡ with_gain (val X h x) (brought g m x)
    theirs = gained-at (brought g m) 0 (vals X h) x (omega (arith, within, few)) ∙ ap (λ (i : ℕ). with_gain (val X h x) (brought g m i)) (sym (from-nothing x))

    choose : (b : Bool) → is_source (kind_at g x) ≡ b → nat_lt row_limit (size_of (content_at (gained (brought g m) 0 (sources X h)) x)) ≡ nat_lt row_limit (size_of (content_at (gained (brought g m) 0 (vals X h)) x))
    choose true is =
        ap (λ (s : Content). nat_lt row_limit (size_of s)) (ours ∙ ap (λ (s : Content). with_gain s (brought g m x)) (sources-source g (vals X h) x within is) ∙ sym theirs)
    choose false is =
        let nothing : brought g m x ≡ None = ap (λ (b : Bool). if b then Some (sent_at m.sources (source_number g x)) else None) is in
        let mine : content_at (gained (brought g m) 0 (sources X h)) x ≡ least = ours ∙ ap (λ (o : Option Content). with_gain (content_at (sources X h) x) o) nothing ∙ sources-derived g (vals X h) x within is in
        let other : content_at (gained (brought g m) 0 (vals X h)) x ≡ val X h x = theirs ∙ ap (λ (o : Option Content). with_gain (val X h x) o) nothing in
        ap (λ (s : Content). nat_lt row_limit (size_of s)) mine ∙ small-test least (omega arith)
        ∙ sym (ap (λ (s : Content). nat_lt row_limit (size_of s)) other ∙ small-test (val X h x) (val-small X h legal x))

pub delivered-ok : (old new : Core) (by i : ℕ) (m : Message) → IsLegal old.frame old.entries → new ≡ entered (entry by (model.Deliver i m)) old
    → first_large 0 (gained (brought (graph old.frame old.entries) m) 0 (vals old.frame old.entries)) ≡ None
    → Delivers {A = Unit {0}} (delivered (graph old.frame old.entries) m (peer_of old.frame old.entries)) (Ok tt) (peer_of new.frame new.entries)
delivered-ok old new by i m legal is small = (
  ap (λ (c : Core). peer_of c.frame c.entries) is ∙ peer-delivered old.frame old.entries legal (entry by (model.Deliver i m)) i m refl,
  gained-large old.frame old.entries legal m ∙ small,
)

pub delivered-large : (old : Core) (m : Message) (why : DeliverRefused) (x : ℕ) → IsLegal old.frame old.entries → why ≡ deliver.TooManyRows x
    → IsDelivered {A = Unit {0}} old.frame.nodes (graph old.frame old.entries) (vals old.frame old.entries) m (Err why)
    → first_large 0 (delivered (graph old.frame old.entries) m (peer_of old.frame old.entries)).contents ≡ Some x
delivered-large old m why x legal is answer =
    gained-large old.frame old.entries legal m
    ∙ (subst (λ (e : DeliverRefused). IsDelivered {A = Unit {0}} old.frame.nodes (graph old.frame old.entries) (vals old.frame old.entries) m (Err e)) is answer).1

-- ---- updates

shape-self : (s : Shape) → is_shape s s ≡ true
shape-self set = refl
shape-self grow = refl
shape-self (counter n) = grind (arith, nat_tests)
shape-self register = refl
shape-self fold = refl

-- an operation that suits a variable is for its kind
op-shape : (nodes p x : ℕ) (g : List Decl) (o : Op) → IsUpdate nodes g x (op_of o) → IsOpOf o p (shape_of nodes (kind_at g x)) → shape_for nodes o ≡ shape_of nodes (kind_at g x)
op-shape nodes p x g (op.Add v) may suits = sym suits
op-shape nodes p x g (op.Remove v) may suits = sym suits
op-shape nodes p x g (op.Insert v) may suits = sym suits
op-shape nodes p x g (op.Inc by) may suits = sym (ap (shape_of nodes) may)
op-shape nodes p x g (op.Max n) may suits = sym suits
op-shape nodes p x g (op.Join s) may suits = suits.0

-- an update that a node may get isn't refused, unless for what its variable holds
pub update-passes : (nodes p x : ℕ) (g : List Decl) (known : List ℕ) (o : Op) → x < length g → IsUpdate nodes g x (op_of o) → IsOpOf o p (shape_of nodes (kind_at g x)) → count_at known p < 100000 → update_check nodes p g known x o ≡ None
update-passes nodes p x g known o within may suits room i =
    if not (there i) then Some update.UnknownVar else
    if not (source i) then Some update.NotASource else
    if not (fits i) then Some update.WrongOp else
    if full i then Some update.UpdatesFull else
    None where
      there : nat_lt x (length g) ≡ true
      there = grind (arith, nat_tests, within)

      source : is_source (kind_at g x) ≡ true
      source = update-source nodes g x (op_of o) may

      fits : is_for nodes o (kind_at g x) ≡ true
      fits = ap (λ (s : Shape). is_shape s (shape_of nodes (kind_at g x))) (op-shape nodes p x g o may suits) ∙ shape-self (shape_of nodes (kind_at g x))

      full : nat_le 100000 (count_at known p) ≡ false
      full = grind (arith, nat_tests, room)

-- what its variable would hold
abbrev pub next_content : Core → ℕ → plain.Op → Content
next_content c x o = join_contents (val c.frame c.entries x) (plain.delta o (val c.frame c.entries x) c.frame.replica (count_at (counts c.frame c.entries) c.frame.replica + 1))

not-many : (b : Bool) → or_too_many None b ≡ None → b ≡ false
not-many true e = absurd cc
not-many false e = refl

too-many : (b : Bool) → or_too_many None b ≡ Some update.TooManyRows → b ≡ true
too-many true e = refl
too-many false e = absurd cc

-- an update that a node may get
pub record IsFit (c : Core) (x : ℕ) (o : Op) : Type 0 where
  pub legal : IsLegal c.frame c.entries
  pub within : x < length (graph c.frame c.entries)
  pub may : IsUpdate c.frame.nodes (graph c.frame c.entries) x (op_of o)
  pub suits : IsOpOf o c.frame.replica (shape_of c.frame.nodes (kind_at (graph c.frame c.entries) x))
  pub room : count_at (counts c.frame c.entries) c.frame.replica < 100000

module _ (old : Core) (x : ℕ) (o : Op) (fit : IsFit old x o) where
  passes : update_check old.frame.nodes old.frame.replica (graph old.frame old.entries) (counts old.frame old.entries) x o ≡ None
  passes = update-passes old.frame.nodes old.frame.replica x (graph old.frame old.entries) (counts old.frame old.entries) o fit.within fit.may fit.suits fit.room

  refusal : update_refusal old.frame.nodes old.frame.replica (graph old.frame old.entries) (vals old.frame old.entries) (counts old.frame old.entries) x o ≡ or_too_many None (nat_lt row_limit (size_of (next_content old x (op_of o))))
  refusal = ap (λ (why : Option UpdateRefused). or_too_many why (nat_lt row_limit (size_of (next_content old x (op_of o))))) passes

  source : IsTrue (is_source (kind_at (graph old.frame old.entries) x))
  source = update-source old.frame.nodes (graph old.frame old.entries) x (op_of o) fit.may

  held : content_at (updated old.frame.replica x (op_of o) (peer_of old.frame old.entries)).contents x ≡ next_content old x (op_of o)
  held =
      let g = graph old.frame old.entries in
      let ss = sources old.frame old.entries in
      let new : Content → Content = λ s. join_contents s (plain.delta (op_of o) s old.frame.replica (count_at (counts old.frame old.entries) old.frame.replica + 1)) in
      let long : length ss ≡ length g = sources-length g (vals old.frame old.entries) (vals-length old.frame old.entries fit.legal) in
      at-set (λ (s : Content). s ≡ new (content_at ss x)) ss x (new (content_at ss x)) least x (omega (arith, long, fit.within)) (λ _. refl) (λ apart. absurd (apart refl))
      ∙ ap new (sources-source g (vals old.frame old.entries) x fit.within source)

  pub updated-ok : (new : Core) (by : ℕ) → new ≡ entered (entry by (model.Update x (op_of o))) old
      → update_refusal old.frame.nodes old.frame.replica (graph old.frame old.entries) (vals old.frame old.entries) (counts old.frame old.entries) x o ≡ None
      → Updates {A = Unit {0}} (updated old.frame.replica x (op_of o) (peer_of old.frame old.entries)) x (Ok tt) (peer_of new.frame new.entries)
  updated-ok new by is answer =
      let small : nat_lt row_limit (size_of (next_content old x (op_of o))) ≡ false = not-many _ (sym refusal ∙ answer) in
      let few : size_of (next_content old x (op_of o)) ≤ row_limit = grind (arith, nat_tests, small) in (
        ap (λ (c : Core). peer_of c.frame c.entries) is ∙ peer-updated old.frame old.entries fit.legal (entry by (model.Update x (op_of o))) x (op_of o) refl fit.within source,
        subst (λ (s : Content). size_of s ≤ row_limit) (sym held) few,
      )

  pub updated-large : (why : UpdateRefused) → why ≡ update.TooManyRows
      → IsAnswered {A = Unit {0}} (update_refusal old.frame.nodes old.frame.replica (graph old.frame old.entries) (vals old.frame old.entries) (counts old.frame old.entries) x o) (Err why)
      → row_limit < size_of (content_at (updated old.frame.replica x (op_of o) (peer_of old.frame old.entries)).contents x)
  updated-large why is answer =
      let told : update_refusal old.frame.nodes old.frame.replica (graph old.frame old.entries) (vals old.frame old.entries) (counts old.frame old.entries) x o ≡ Some update.TooManyRows =
      subst (λ (e : UpdateRefused). IsAnswered {A = Unit {0}} (update_refusal old.frame.nodes old.frame.replica (graph old.frame old.entries) (vals old.frame old.entries) (counts old.frame old.entries) x o) (Err e)) is answer in
      let large : nat_lt row_limit (size_of (next_content old x (op_of o))) ≡ true = too-many _ (sym refusal ∙ told) in
      let many : row_limit < size_of (next_content old x (op_of o)) = grind (arith, nat_tests, large) in
      subst (λ (s : Content). row_limit < size_of s) (sym held) many
