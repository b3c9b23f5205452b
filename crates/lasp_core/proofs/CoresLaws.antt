-- What each call leaves of a core: its replica goes on, and its parked reads go on waiting or are released.
use Rattle.std.proofs.Common.{◌≡◌, ℕ, ◌<◌, ◌≤◌, Bool, true, false, not, IsTrue, IsFalse, List, [], ◌∷◌, ◌++◌, length, map, filter, take, refl, sym, ap, subst, ◌∙◌, append-nil, arith}
use Rattle.std.specs.Prelude.{slice_get, Some, Result, Ok, Err, OnOk, OnErr, IfOk, vec_len, ◌==◌}
use Rattle.std.specs.Arc.{arc_value}
use Rattle.std.specs.Result.{IsErrAnd}
use Rattle.std.specs.List.{AllByRecursion}
use Rattle.std.proofs.lemmas.List.Elements.{filter-append}
use Rattle.std.proofs.lemmas.List.{take_at}
use Rattle.model_values.proofs.ListLaws.{each-weaker}
use Rattle.model_states.specs.Content.{Content, least}
use Rattle.model_states.specs.Threshold.{Threshold, suits, meets}
use Rattle.model_graph.specs.Graph.{Decl, kind_at}
use Rattle.model_graph.specs.Evaluation.{content_at, equation, least_of}
use Rattle.model_graph.specs.Lawful as lawful
use Rattle.model_graph.specs.Lawful.{IsDerived}
use Rattle.model_graph.proofs.PlaceLaws.{at-append, at-map, map-length}
use Rattle.model_states.specs.Update.{Op}
use Rattle.model_core.specs.Known.{BringsNothing}
use Rattle.model_runs.specs.Held.{IsHeld}
use Rattle.model_runs.proofs.EachLaws.{each-append}
use Rattle.model_journal.specs.Entry as model
use Rattle.model_journal.specs.Entry.{Act, Entry, Frame, entry}
use Rattle.model_journal.specs.Callers.{made_by}
use Rattle.model_journal.specs.Journal.{graph, counts, val, vals}
use Rattle.model_journal.specs.Clean.{version}
use Rattle.model_journal.specs.Legal.{IsLegal}
use Rattle.model_journal.proofs.JournalLaws.{journal-later}
use Rattle.model_journal.proofs.LegalLaws.{legal-first}
use Rattle.model_journal.proofs.CleanLaws.{vals-length}
use Rattle.model_journal.proofs.EntryLaws.{extend-vals}
use Rattle.model_core.specs.Peer.{peer_of}
use Rattle.model_core.specs.Core.{Read, Core, is_met, entered, released, IsParked, IsCore}
use Rattle.model_core.proofs.BaseLaws.{graph-longer}
use Rattle.model_core.proofs.ReadLaws.{meets-grows, suits-stays, each-kept}
use Rattle.model_core.proofs.ValidLaws.{val-ordered}
use Rattle.model_core.proofs.CoreLaws.{entered-core, released-met}
use Rattle.lasp_replica.proofs.ReadLaws.{kept-version}
use Rattle.lasp_state.specs.declared.state.State.{State}
use Rattle.lasp_graph.specs.States.{Held, held_of, held_at, contents_of}
use Rattle.lasp_replica.proofs.PartLaws.{held-val}
use Rattle.lasp_graph.specs.Evaluated.{number_by}
use Rattle.lasp_graph.specs.declared.inputs.EvalRefused.{EvalRefused}
use Rattle.lasp_core.specs.Reads.{read_of}
use Rattle.lasp_core.specs.Lacking.{IsWaiting, WasWaiting}
use Rattle.lasp_replica.specs.Entries.{entry_of}
use Rattle.lasp_replica.specs.Replica.{frame_of, entries_of, parts_of, IsReplica, Grows, Stays}
use Rattle.lasp_replica.specs.Jobs.{HasBound, counted_up}
use Rattle.lasp_core.specs.Listed.{GoesOn}
use Rattle.lasp_core.specs.Core.{core_of, IsSound, AreInOrder, IsOpen, IsWatched, opened_read, returned, IsStateOf}
use Rattle.lasp_core.specs.declared.read.ReadNo.{ReadNo}
use Rattle.lasp_replica.specs.declared.replica.Replica.{Replica}
use Rattle.lasp_core.proofs.OrderLaws.{order-kept, order-opened, order-pushed}
use Rattle.lasp_core.proofs.ParkedLaws.{graph-length, state-shape, state-content}
use Rattle.lasp_core.proofs.LackLaws.{waiting-still}
use Rattle.lasp_graph.proofs.SourceLists.{held_found}

-- ---- facts of a frame and entries, along equations of them

along : (P : Frame → List Entry → Type 0) (X Y : Frame) (h k : List Entry) → Y ≡ X → k ≡ h → P X h → P Y k
along P X Y h k frames entries p = subst (λ (Z : Frame). P Z k) (sym frames) (subst (λ (l : List Entry). P X l) (sym entries) p)

back : (P : Frame → List Entry → Type 0) (X Y : Frame) (h k : List Entry) → Y ≡ X → k ≡ h → P Y k → P X h
back P X Y h k frames entries p = along P Y X k h (sym frames) (sym entries) p

-- what holds where a call answers Ok and where it answers Err
pub either-way : {A E : Type 0} (P Q C : Type 0) (r : Result A E) → OnOk r P → OnErr r Q → (P → C) → (Q → C) → C
either-way P Q C (Ok a) p q f g = f p
either-way P Q C (Err e) p q f g = g q

-- the journal has so many entries
-- a replica of which only what makes calls cheap was changed
pub ready-sound : (old ready : Replica) (reads : List ReadNo) (opened : ℕ) → ready ≡ old → IsSound old reads opened → IsSound ready reads opened
ready-sound old ready reads opened is sound = subst (λ (r : Replica). IsSound r reads opened) (sym is) sound

pub entries-many : (r : Replica) → vec_len r.journal ≡ length (entries_of r)
entries-many r = r.journal.ok.0 ∙ sym (map-length entry_of r.journal.items)

-- ---- a sound replica with its reads is a core

pub held-here : (r : Replica) → IsReplica r → IsHeld (frame_of r).nodes (graph (frame_of r) (entries_of r)) (peer_of (frame_of r) (entries_of r))
held-here r is = subst (λ (g : List Decl). IsHeld (frame_of r).nodes g (peer_of (frame_of r) (entries_of r))) is.kept.graph is.held

pub sound-core : (r : Replica) (reads : List ReadNo) (opened owed : ℕ) → IsSound r reads opened → IsCore (core_of r reads opened owed)
sound-core r reads opened owed is = record { legal = is.replica.legal; held = held-here r is.replica; few = is.replica.few; parked = is.parked }

-- an update that brings nothing after its entries brings nothing to its states
pub idle-here : (r : Replica) → IsReplica r → (x : ℕ) (op : Op) → BringsNothing (val (frame_of r) (entries_of r) x) (counts (frame_of r) (entries_of r)) (frame_of r).replica op → BringsNothing (content_at (contents_of r.states) x) r.counts r.me op
idle-here r is x op nothing =
    let held : content_at (contents_of r.states) x ≡ val (frame_of r) (entries_of r) x = at-map (λ (h : Held). h.content) r.states x _ ∙ held-val (frame_of r) (entries_of r) (parts_of r) is.kept x in
    subst (λ (cs : List ℕ). BringsNothing (content_at (contents_of r.states) x) cs r.me op) (sym is.kept.counts) (subst (λ (s : Content). BringsNothing s (counts (frame_of r) (entries_of r)) r.me op) (sym held) nothing)

-- ---- parked reads are watched

still-unmet : (X : Frame) (h more : List Entry) → IsLegal X (h ++ more) → (r : Read) → version X h r.var ≡ version X (h ++ more) r.var → IsFalse (is_met X h r) → IsFalse (is_met X (h ++ more) r)
still-unmet X h more legal r same unmet = choose (is_met X (h ++ more) r) refl where
  choose : (b : Bool) → is_met X (h ++ more) r ≡ b → b ≡ false
  choose true met = absurd
      (let down : is_met X h r ≡ true = meets-grows r.threshold (val X (h ++ more) r.var) (val X h r.var) (val-ordered X (h ++ more) legal r.var) (val-ordered X h (legal-first X h more legal) r.var) ((journal-later X h more).same r.var same) met in
      let both : true ≡ false = sym down ∙ unmet in cc)
  choose false met = refl

watched : (new : Replica) (X : Frame) (h more : List Entry) → IsReplica new → frame_of new ≡ X → entries_of new ≡ h ++ more → (r : Read) → IsParked X h r → IsWatched new (length h) r
watched new X h more is frames entries r p = record {
  declared = low;
  suits_it = along (λ (Z : Frame) (k : List Entry). IsTrue (suits r.threshold (lawful.shape_of Z.nodes (kind_at (graph Z k) r.var)))) X (frame_of new) (h ++ more) (entries_of new) frames entries (suits-stays X h more r.var r.threshold p.declared p.suits_it);
  still = λ still. along (λ (Z : Frame) (k : List Entry). IsFalse (is_met Z k r)) X (frame_of new) (h ++ more) (entries_of new) frames entries
      (still-unmet X h more (back (λ (Z : Frame) (k : List Entry). IsLegal Z k) X (frame_of new) (h ++ more) (entries_of new) frames entries is.legal) r
      (before ∙ (is.kept.histories r.var there).versions (length h) within ∙ still ∙ sym (kept-version (frame_of new) (entries_of new) (parts_of new) is.kept r.var there) ∙ after) p.unmet);
} where
  low : r.var < length (graph (frame_of new) (entries_of new))
  low = along (λ (Z : Frame) (k : List Entry). r.var < length (graph Z k)) X (frame_of new) (h ++ more) (entries_of new) frames entries (omega (arith, p.declared, graph-longer X h more))

  there : r.var < length (parts_of new).graph
  there = omega (arith, low, graph-length new is)

  long : (xs ys : List Entry) → length xs ≤ length (xs ++ ys)
  long [] ys = omega arith
  long (x ∷ xs) ys = omega (arith, long xs ys)

  within : length h ≤ length (entries_of new)
  within = omega (arith, long h more, ap (λ (k : List Entry). length k) entries)

  before : version X h r.var ≡ version (frame_of new) (take (length h) (entries_of new)) r.var
  before = ap (λ (k : List Entry). version X k r.var) (sym ((take_at h more (length h) refl))) ∙ (λ i. version (sym frames i) (take (length h) (sym entries i)) r.var)

  after : version (frame_of new) (entries_of new) r.var ≡ version X (h ++ more) r.var
  after = λ i. version (frames i) (entries i) r.var

-- the reads that were parked before an entry are watched after it
pub all-watched : (old new : Replica) (reads : List ReadNo) (opened : ℕ) (more : List Entry) (n : ℕ) → IsSound old reads opened → IsReplica new → frame_of new ≡ frame_of old → entries_of new ≡ entries_of old ++ more → n ≡ length (entries_of old)
    → AllByRecursion (IsWatched new n) (map read_of reads)
all-watched old new reads opened more n sound is frames entries many =
    subst (λ (m : ℕ). AllByRecursion (IsWatched new m) (map read_of reads)) (sym many)
    (each-weaker (IsParked (frame_of old) (entries_of old)) (IsWatched new (length (entries_of old))) (λ r p. watched new (frame_of old) (entries_of old) more is frames entries r p) (map read_of reads) sound.parked)

-- what holds of each and of what is seen of each
each-both : {A B : Type 0} (f : A → B) (P : B → Type 0) (Q R : A → Type 0) → ((x : A) → P (f x) → Q x → R x) → (xs : List A) → AllByRecursion P (map f xs) → AllByRecursion Q xs → AllByRecursion R xs
each-both f P Q R then [] h g = tt
each-both f P Q R then (x ∷ xs) h g = (then x h.0 g.0, each-both f P Q R then xs h.1 g.1)

-- and what they were known to lack was lacking before it
pub all-waiting : (old new : Replica) (reads : List ReadNo) (opened : ℕ) (more : List Entry) (n : ℕ) → IsSound old reads opened → IsReplica new → frame_of new ≡ frame_of old → entries_of new ≡ entries_of old ++ more → n ≡ length (entries_of old)
    → AllByRecursion (WasWaiting new n) reads
all-waiting old new reads opened more n sound is frames entries many =
    each-both read_of (IsWatched new n) (IsWaiting (frame_of old) (entries_of old)) (WasWaiting new n) (λ r watches waits. record {
      declared = watches.declared;
      waits = waiting-still (frame_of old) (frame_of new) (entries_of old) (take n (entries_of new)) r (λ i. val (sym frames i) (before i) (read_of r).var) waits;
    }) reads (all-watched old new reads opened more n sound is frames entries many) sound.waiting where
      before : entries_of old ≡ take n (entries_of new)
      before = sym (ap (λ (k : List Entry). take n k) entries ∙ take_at (entries_of old) more n (sym many))

-- the entries before are among all
pub entries-within : (old new : Replica) (more : List Entry) (n : ℕ) → entries_of new ≡ entries_of old ++ more → n ≡ length (entries_of old) → n ≤ length (entries_of new)
entries-within old new more n entries many = omega (arith, many, ap (λ (k : List Entry). length k) entries, longer (entries_of old) more) where
  longer : (xs ys : List Entry) → length xs ≤ length (xs ++ ys)
  longer [] ys = omega arith
  longer (x ∷ xs) ys = omega (arith, longer xs ys)

-- ---- the core after an entry

abbrev pub Remain : Replica → List ReadNo → List ReadNo → Type 0
Remain new reads rest = map read_of rest ≡ filter (λ r. not (is_met (frame_of new) (entries_of new) r)) (map read_of reads)

remain-is : (old new : Replica) (e : Entry) (reads rest : List ReadNo) → frame_of new ≡ frame_of old → entries_of new ≡ entries_of old ++ e ∷ [] → Remain new reads rest
    → map read_of rest ≡ filter (λ r. not (is_met (frame_of old) (entries_of old ++ e ∷ []) r)) (map read_of reads)
remain-is old new e reads rest frames entries left = left ∙ (λ i. filter (λ r. not (is_met (frames i) (entries i) r)) (map read_of reads))

pub bound-is : (old new : Replica) (by y n : ℕ) (reads rest : List ReadNo) (opened owed : ℕ) → HasBound by y n old new → Remain new reads rest
    → core_of new rest opened owed ≡ returned y (entered (record { by = by; act = model.Bind y n }) (core_of old reads opened owed))
bound-is old new by y n reads rest opened owed bound left i = record {
  frame = bound.frame i;
  entries = bound.entries i;
  parked = remain-is old new (record { by = by; act = model.Bind y n }) reads rest bound.frame bound.entries left i;
  busy = bound.busy i;
  opened = opened;
  owed = owed;
}

pub released-is : (old new : Replica) (e : Entry) (reads out : List ReadNo) (opened owed : ℕ) → frame_of new ≡ frame_of old → entries_of new ≡ entries_of old ++ e ∷ []
    → map read_of out ≡ filter (λ r. is_met (frame_of new) (entries_of new) r) (map read_of reads) → map read_of out ≡ released e (core_of old reads opened owed)
released-is old new e reads out opened owed frames entries met = met ∙ (λ i. filter (λ r. is_met (frames i) (entries i) r) (map read_of reads))

pub entered-sound : (old new : Replica) (e : Entry) (reads rest : List ReadNo) (opened : ℕ) → IsSound old reads opened → IsReplica new → frame_of new ≡ frame_of old → entries_of new ≡ entries_of old ++ e ∷ [] → Remain new reads rest
    → AllByRecursion (IsWaiting (frame_of new) (entries_of new)) rest → IsSound new rest opened
entered-sound old new e reads rest opened sound is frames entries left waits = record {
  replica = is;
  parked = subst (λ (rs : List Read). AllByRecursion (IsParked (frame_of new) (entries_of new)) rs) (sym (remain-is old new e reads rest frames entries left))
      (along (λ (Z : Frame) (k : List Entry). AllByRecursion (IsParked Z k) c.parked) (frame_of old) (frame_of new) h (entries_of new) frames entries
      (entered-core (core_of old reads opened 0) e (sound-core old reads opened 0 sound)
      (back (λ (Z : Frame) (k : List Entry). IsLegal Z k) (frame_of old) (frame_of new) h (entries_of new) frames entries is.legal)
      (back (λ (Z : Frame) (k : List Entry). IsHeld Z.nodes (graph Z k) (peer_of Z k)) (frame_of old) (frame_of new) h (entries_of new) frames entries (held-here new is))).parked);
  waiting = waits;
  order = subst (AreInOrder opened) (sym left) (order-kept opened (λ r. not (is_met (frame_of new) (entries_of new) r)) (map read_of reads) sound.order);
} where
  h : List Entry
  h = entries_of old ++ e ∷ []

  c : Core
  c = entered e (core_of old reads opened 0)

-- ---- the core after what is no entry

-- a replica with the frame and the entries of another one may have its reads
pub same-sound : (old new : Replica) (reads : List ReadNo) (opened : ℕ) → IsSound old reads opened → IsReplica new → frame_of new ≡ frame_of old → entries_of new ≡ entries_of old → IsSound new reads opened
same-sound old new reads opened sound is frames entries = record {
  replica = is;
  parked = along (λ (Z : Frame) (k : List Entry). AllByRecursion (IsParked Z k) (map read_of reads)) (frame_of old) (frame_of new) (entries_of old) (entries_of new) frames entries sound.parked;
  waiting = along (λ (Z : Frame) (k : List Entry). AllByRecursion (IsWaiting Z k) reads) (frame_of old) (frame_of new) (entries_of old) (entries_of new) frames entries sound.waiting;
  order = sound.order;
}

pub stays-sound : (old new : Replica) (reads : List ReadNo) (opened : ℕ) → IsSound old reads opened → Stays old new → IsSound new reads opened
stays-sound old new reads opened sound stays = same-sound old new reads opened sound stays.sound stays.frame stays.entries

-- ---- declarations

-- a declaration leaves the variables before it
extend-keeps : (X : Frame) (h : List Entry) → IsLegal X h → (e : Entry) (d : Decl) → e.act ≡ model.Extend d → (x : ℕ) → x < length (graph X h) → val X (h ++ e ∷ []) x ≡ val X h x
extend-keeps X h legal e d act x low = ap (λ (ss : List Content). content_at ss x) (extend-vals X h e d act) ∙ at-append (vals X h) (least_of X.nodes d.kind ∷ []) x least (omega (arith, low, vals-length X h legal))

parked-extended : (X : Frame) (h : List Entry) → IsLegal X h → (e : Entry) (d : Decl) → e.act ≡ model.Extend d → (r : Read) → IsParked X h r → IsParked X (h ++ e ∷ []) r
parked-extended X h legal e d act r p = record {
  declared = omega (arith, p.declared, graph-longer X h (e ∷ []));
  suits_it = suits-stays X h (e ∷ []) r.var r.threshold p.declared p.suits_it;
  unmet = ap (λ (s : Content). meets r.threshold s) (extend-keeps X h legal e d act r.var p.declared) ∙ p.unmet;
}

pub declared-sound : (old new : Replica) (e : Entry) (d : Decl) (reads : List ReadNo) (opened : ℕ) → e.act ≡ model.Extend d → IsSound old reads opened → Grows e old new → IsSound new reads opened
declared-sound old new e d reads opened act sound grows = record {
  replica = grows.sound;
  parked = along (λ (Z : Frame) (k : List Entry). AllByRecursion (IsParked Z k) (map read_of reads)) (frame_of old) (frame_of new) (entries_of old ++ e ∷ []) (entries_of new) grows.frame grows.entries
      (each-weaker (IsParked (frame_of old) (entries_of old)) (IsParked (frame_of old) (entries_of old ++ e ∷ []))
      (λ r p. parked-extended (frame_of old) (entries_of old) sound.replica.legal e d act r p) (map read_of reads) sound.parked);
  waiting = along (λ (Z : Frame) (k : List Entry). AllByRecursion (IsWaiting Z k) reads) (frame_of old) (frame_of new) (entries_of old ++ e ∷ []) (entries_of new) grows.frame grows.entries
      (each-both read_of (IsParked (frame_of old) (entries_of old)) (IsWaiting (frame_of old) (entries_of old)) (IsWaiting (frame_of old) (entries_of old ++ e ∷ []))
      (λ r p. waiting-still (frame_of old) (frame_of old) (entries_of old) (entries_of old ++ e ∷ []) r (sym (extend-keeps (frame_of old) (entries_of old) sound.replica.legal e d act (read_of r).var p.declared)))
      reads sound.parked sound.waiting);
  order = sound.order;
}

-- ---- opened reads

pushed-reads : (reads : List ReadNo) (read : ReadNo) → map read_of (reads ++ read ∷ []) ≡ map read_of reads ++ read_of read ∷ []
pushed-reads [] read = refl
pushed-reads (r ∷ reads) read = ap (λ rest. read_of r ∷ rest) (pushed-reads reads read)

-- a read was opened that isn't met, and is parked behind the others
pub parked-sound : (r : Replica) (reads rest : List ReadNo) (opened owed next : ℕ) (c : Core) (read : ReadNo) (x : ℕ) (t : Threshold) → core_of r reads opened owed ≡ c → IsSound r reads opened → next ≡ counted_up opened 1
    → IsOpen c.frame c.entries (opened_read c x t) → IsFalse (is_met c.frame c.entries (opened_read c x t)) → read_of read ≡ opened_read c x t → IsFalse read.is_lacking → rest ≡ reads ++ read ∷ [] → IsSound r rest next
parked-sound r reads rest opened owed next c read x t view sound counted may unmet is unknown grown = record {
  replica = sound.replica;
  parked = subst (λ (rs : List Read). AllByRecursion (IsParked (frame_of r) (entries_of r)) rs) (sym list) (each-append (IsParked (frame_of r) (entries_of r)) (map read_of reads) (opened_read c x t ∷ []) sound.parked (waits, tt));
  waiting = subst (λ (rs : List ReadNo). AllByRecursion (IsWaiting (frame_of r) (entries_of r)) rs) (sym grown)
      (each-append (IsWaiting (frame_of r) (entries_of r)) reads (read ∷ []) sound.waiting (λ lacking. absurd (let wrong : true ≡ false = sym lacking ∙ unknown in cc), tt));
  order = subst (AreInOrder next) (sym list) (subst (λ (n : ℕ). AreInOrder n (map read_of reads ++ opened_read c x t ∷ [])) (sym counted) (order-pushed opened (map read_of reads) (opened_read c x t) (ap (λ (s : Core). s.opened) (sym view)) sound.order));
} where
  list : map read_of rest ≡ map read_of reads ++ opened_read c x t ∷ []
  list = ap (λ (rs : List ReadNo). map read_of rs) grown ∙ pushed-reads reads read ∙ ap (λ (p : Read). map read_of reads ++ p ∷ []) is

  waits : IsParked (frame_of r) (entries_of r) (opened_read c x t)
  waits = subst (λ (s : Core). IsParked s.frame s.entries (opened_read c x t)) (sym view) (record { declared = may.declared; suits_it = may.suits_it; unmet = unmet })

-- one was opened that is met, and isn't parked
pub counted-sound : (r : Replica) (reads : List ReadNo) (opened next : ℕ) → IsSound r reads opened → next ≡ counted_up opened 1 → IsSound r reads next
counted-sound r reads opened next sound counted = record {
  replica = sound.replica;
  parked = sound.parked;
  waiting = sound.waiting;
  order = subst (λ (n : ℕ). AreInOrder n (map read_of reads)) (sym counted) (order-opened opened (map read_of reads) sound.order);
}

-- ---- closed reads

abbrev pub Closed : ℕ → List ReadNo → List ReadNo → Type 0
Closed number reads rest = (map read_of rest ≡ filter (λ r. not (r.number == number)) (map read_of reads)) × (rest ≡ filter (λ r. not (r.number == number)) reads)

pub closed-sound : (r : Replica) (number : ℕ) (reads rest : List ReadNo) (opened : ℕ) → IsSound r reads opened → Closed number reads rest → IsSound r rest opened
closed-sound r number reads rest opened sound closes = record {
  replica = sound.replica;
  parked = subst (λ (rs : List Read). AllByRecursion (IsParked (frame_of r) (entries_of r)) rs) (sym closes.0)
      (each-kept (IsParked (frame_of r) (entries_of r)) (IsParked (frame_of r) (entries_of r)) (λ x. not (x.number == number)) (λ x e p. p) (map read_of reads) sound.parked);
  waiting = subst (λ (rs : List ReadNo). AllByRecursion (IsWaiting (frame_of r) (entries_of r)) rs) (sym closes.1)
      (each-kept (IsWaiting (frame_of r) (entries_of r)) (IsWaiting (frame_of r) (entries_of r)) (λ x. not (x.number == number)) (λ x e p. p) reads sound.waiting);
  order = subst (AreInOrder opened) (sym closes.0) (order-kept opened (λ x. not (x.number == number)) (map read_of reads) sound.order);
}

-- one was opened and closed again
pub looked-sound : (old ready : Replica) (reads rest : List ReadNo) (opened next : ℕ) → ready ≡ old → IsSound old reads opened → Closed opened reads rest → next ≡ counted_up opened 1 → IsSound ready rest next
looked-sound old ready reads rest opened next is sound closes counted = ready-sound old ready rest next is (counted-sound old rest opened next (closed-sound old opened reads rest opened sound closes) counted)

-- ---- what a process gives

-- on the states that are kept it gives what the entries say
pub equation-here : (r : Replica) → IsReplica r → (y : ℕ) → equation (kind_at (arc_value r.graph) y) (contents_of r.states) ≡ equation (kind_at (graph (frame_of r) (entries_of r)) y) (vals (frame_of r) (entries_of r))
equation-here r is y i = equation (kind_at (is.kept.graph i) y) (is.kept.contents i)

-- a refusal that is handed on
pub passed-refusal : {A : Type 0} (r : Result A EvalRefused) (e t : EvalRefused) → IsErrAnd r (λ x. x ≡ e) → r ≡ Err t → e ≡ t
passed-refusal (Ok x) e t h k = cc
passed-refusal (Err y) e t h k = cc

-- ---- numbers of states

pub held-number : (r : Replica) → IsReplica r → (x : ℕ) → IsDerived (graph (frame_of r) (entries_of r)) x
    → (held_at r.states x).number ≡ number_by (kind_at (graph (frame_of r) (entries_of r)) x) (held_at r.states x).content
held-number r is x derived =
    subst (λ (g : List Decl). (held_at r.states x).number ≡ number_by (kind_at g x) (held_at r.states x).content) is.kept.graph
    (is.kept.numbers x (subst (λ (g : List Decl). IsDerived g x) (sym is.kept.graph) derived))

pub state-number : (r : Replica) → IsReplica r → (x : ℕ) → (s : State) → held_at r.states x ≡ held_of s → IsDerived (graph (frame_of r) (entries_of r)) x
    → (held_of s).number ≡ number_by (kind_at (graph (frame_of r) (entries_of r)) x) (held_of s).content
state-number r is x s at derived = subst (λ h. h.number ≡ number_by (kind_at (graph (frame_of r) (entries_of r)) x) h.content) at (held-number r is x derived)

pub state-is : (r : Replica) → IsReplica r → (reads : List ReadNo) (opened owed : ℕ) (x : ℕ) → x < length (graph (frame_of r) (entries_of r)) → (s : State) → slice_get r.states x ≡ Some (held_of s) → IsStateOf (core_of r reads opened owed) x s
state-is r is reads opened owed x low s at = record {
  content = state-content r is x s at;
  shape = state-shape r is x low s at;
  number = λ derived. state-number r is x s ((sym (held_found r.states x (held_of s) at))) derived;
}

-- ---- reads that the result of a job releases

-- each is met where the call leaves the core
pub finished-met : {E : Type 0} (c new : Core) (e : Entry) (y : ℕ) → IsCore c → (result : Result (List Read) E) → OnOk result (new ≡ returned y (entered e c)) → IfOk result (λ reads. reads ≡ released e c)
    → IfOk result (λ reads. AllByRecursion (λ r. IsTrue (is_met new.frame new.entries r)) reads)
finished-met c new e y core (Ok reads) ok out =
    subst (λ (s : Core). AllByRecursion (λ r. IsTrue (is_met s.frame s.entries r)) reads) (sym ok)
    (subst (λ (rs : List Read). AllByRecursion (λ r. IsTrue (is_met c.frame (c.entries ++ e ∷ []) r)) rs) (sym out) (released-met c e core))
finished-met c new e y core (Err why) ok out = tt

-- a result that isn't taken in leaves the entries as they were
pub refused-goes-on : {A E : Type 0} (c new : Core) → (result : Result A E) → OnErr result (new ≡ c) → OnErr result (GoesOn c.entries new.entries)
refused-goes-on c new (Ok a) same = tt
refused-goes-on c new (Err why) same = ([], ap (λ (s : Core). s.entries) same ∙ sym (append-nil c.entries))

-- a result that is taken in is the next entry of caller 0
pub finished-own : {A E : Type 0} (c new : Core) (act : Act) (y : ℕ) → (result : Result A E) → OnOk result (new ≡ returned y (entered (entry 0 act) c))
    → OnOk result (made_by 0 new.entries ≡ made_by 0 c.entries ++ entry 0 act ∷ [])
finished-own c new act y (Ok a) bound = ap (λ (s : Core). made_by 0 s.entries) bound ∙ filter-append (λ e. e.by == 0) c.entries (entry 0 act ∷ [])
finished-own c new act y (Err why) bound = tt
