-- How a story goes on.
use Rattle.std.proofs.Common.{◌≡◌, ℕ, zero, suc, ◌+◌, ◌<◌, ◌≤◌, ◌==◌, Bool, true, false, cond, IsTrue, List, [], ◌∷◌, ◌++◌, length, map, take, not, Option, Some, None, refl, sym, ap, subst, ◌∙◌, append-nil, append_assoc, arith}
use Rattle.std.specs.Prelude.{IsFalse}
use Rattle.std.specs.List.{AllByRecursion}
use Rattle.std.proofs.lemmas.Bool.Decides.{nat_tests}
use Rattle.std.proofs.lemmas.List.{map-append, take_all}
use Rattle.std.proofs.lemmas.List.Elements.{filter-append}
use Rattle.model_states.specs.Content.{Content, IsContentAtMost, IsOrdered}
use Rattle.model_states.specs.Threshold.{Threshold, meets}
use Rattle.model_states.specs.Update.{Op}
use Rattle.model_graph.specs.Evaluation.{content_at, eval}
use Rattle.model_graph.specs.Graph.{Decl, is_source, kind_at}
use Rattle.model_graph.proofs.EvalLaws.{eval-monotone, eval-ordered}
use Rattle.model_journal.specs.Entry.{Act, Update, Deliver, Bind, Extend, Entry, Frame}
use Rattle.model_journal.specs.Journal.{graph, vals, sources, declared_by, declared}
use Rattle.model_journal.specs.Legal.{IsLegal}
use Rattle.model_journal.proofs.EntryLaws.{graph-is}
use Rattle.model_journal.proofs.JournalLaws.{vals-grow, journal-graph}
use Rattle.model_journal.proofs.LegalLaws.{legal-first}
use Rattle.model_runs.specs.Calls.{is_bind, fed, unbound}
use Rattle.model_core.proofs.ReadLaws.{meets-grows, none-kept}
use Rattle.model_core.proofs.SourceLaws.{sources-source}
use Rattle.model_core.proofs.ValidLaws.{val-ordered}
use Rattle.model_graph.specs.Message.{Message}
use Rattle.model_world.specs.Command.{Until}
use Rattle.model_core.specs.Peer.{peer_of}
use Rattle.model_world.specs.World.{message_at, threshold_of}
use Rattle.model_live.specs.Steps.{Deed, Updates, Step, Does, Waits}
use Rattle.model_live.specs.Story.{Noted, Sent, Printed, Note, Placed, ArePlaced, notes_at, deed_of, placed_note, placed_act, deeds_from, place_before, shown_after, is_met, Goes, ends, does, passes, fails, message_after, message_noted, letters_in}

-- ---- entries that declare nothing

pub declared-append : (h more : List Entry) → declared (h ++ more) ≡ declared h ++ declared more
declared-append [] more = refl
declared-append (e ∷ h) more = ap (λ (l : List Decl). declared_by e.act ++ l) (declared-append h more) ∙ sym (append_assoc (declared_by e.act) (declared h) (declared more))

pub graph-stays : (X : Frame) (h more : List Entry) → declared more ≡ [] → graph X (h ++ more) ≡ graph X h
graph-stays X h more none =
    graph-is X (h ++ more) ∙ ap (λ (l : List Decl). X.opening ++ l) (declared-append h more ∙ ap (λ (l : List Decl). declared h ++ l) none ∙ append-nil (declared h)) ∙ sym (graph-is X h)

-- ---- what is shown

abbrev evaluation : Frame → List Entry → List Content
evaluation X h = eval (graph X h) (sources X h)

source-at : (X : Frame) (h : List Entry) (g : List Decl) → graph X h ≡ g → (y : ℕ) → y < length g → IsTrue (is_source (kind_at g y)) → content_at (sources X h) y ≡ content_at (vals X h) y
source-at X h g same y low source =
    sources-source (graph X h) (vals X h) y (subst (λ (k : List Decl). y < length k) (sym same) low) (subst (λ (k : List Decl). IsTrue (is_source (kind_at k y))) (sym same) source)

shown-grows : (X : Frame) (h more : List Entry) → IsLegal X (h ++ more) → declared more ≡ [] → (x : ℕ) → IsContentAtMost (content_at (evaluation X h) x) (content_at (evaluation X (h ++ more)) x)
shown-grows X h more legal none x =
    let g : List Decl = graph X h in
    let same : graph X (h ++ more) ≡ g = graph-stays X h more none in
    subst (λ (k : List Decl). IsContentAtMost (content_at (evaluation X h) x) (content_at (eval k (sources X (h ++ more))) x)) (sym same)
    (eval-monotone g (sources X h) (sources X (h ++ more)) (journal-graph X h (legal-first X h more legal))
    (λ y low source. subst (λ (s : Content). IsContentAtMost s (content_at (sources X (h ++ more)) y)) (sym (source-at X h g refl y low source))
    (subst (λ (s : Content). IsContentAtMost (content_at (vals X h) y) s) (sym (source-at X (h ++ more) g same y low source)) (vals-grow X h more y))) x)

shown-ordered : (X : Frame) (h : List Entry) → IsLegal X h → (x : ℕ) → IsOrdered (content_at (evaluation X h) x)
shown-ordered X h legal x = eval-ordered (graph X h) (sources X h) (λ y low source. subst IsOrdered (sym (source-at X h (graph X h) refl y low source)) (val-ordered X h legal y)) x

pub now-shown : (X : Frame) (h : List Entry) (x : ℕ) → shown_after X h (length h) x ≡ content_at (evaluation X h) x
now-shown X h x = ap (λ (l : List Entry). content_at (evaluation X l) x) (take_all (length h) h (omega arith))

-- what is met stays met
pub met-later : (X : Frame) (h more : List Entry) → IsLegal X (h ++ more) → declared more ≡ [] → (x : ℕ) (until : Until) → IsTrue (is_met X h (length h) x until) → IsTrue (is_met X (h ++ more) (length (h ++ more)) x until)
met-later X h more legal none x until met =
    let t : Threshold = threshold_of [] until in
    ap (meets t) (now-shown X (h ++ more) x)
    ∙ meets-grows t (content_at (evaluation X h) x) (content_at (evaluation X (h ++ more)) x) (shown-ordered X h (legal-first X h more legal) x) (shown-ordered X (h ++ more) legal x) (shown-grows X h more legal none x)
    (sym (ap (meets t) (now-shown X h x)) ∙ met)

-- ---- beginnings

pub take-begin : {A : Type 0} (xs ys : List A) (i : ℕ) → i ≤ length xs → take i (xs ++ ys) ≡ take i xs
take-begin xs ys zero h = refl
take-begin [] ys (suc i) h = absurd (omega (arith, h))
take-begin (x ∷ xs) ys (suc i) h = ap (λ zs. x ∷ zs) (take-begin xs ys i (omega (arith, h)))

pub met-within : (X : Frame) (h more : List Entry) (n x : ℕ) (until : Until) → n ≤ length h → is_met X (h ++ more) n x until ≡ is_met X h n x until
met-within X h more n x until low = ap (λ (l : List Entry). meets (threshold_of [] until) (content_at (evaluation X l) x)) (take-begin h more n low)

pub message-within : (X : Frame) (h more : List Entry) (n : ℕ) → n ≤ length h → message_after X (h ++ more) n ≡ message_after X h n
message-within X h more n low = ap (λ (l : List Entry). message_at (graph X l) (peer_of X l)) (take-begin h more n low)

-- ---- notes and their places

-- each place is at most this
abbrev pub AreAtMost : ℕ → List Note → Type 0
AreAtMost most [] = Unit {0}
AreAtMost most (n ∷ notes) = (n.place ≤ most) × AreAtMost most notes

pub placed-most : (least most : ℕ) (notes : List Note) → ArePlaced least most notes → AreAtMost most notes
placed-most least most [] h = tt
placed-most least most (n ∷ notes) h = (h.1, placed-most n.place most notes h.2)

pub placed-later : (least most more : ℕ) (notes : List Note) → most ≤ more → ArePlaced least most notes → ArePlaced least more notes
placed-later least most more [] le h = tt
placed-later least most more (n ∷ notes) le h = (h.0, omega (arith, h.1, le), placed-later n.place most more notes le h.2)

placed-snoc : (least most : ℕ) (notes : List Note) (what : Noted) → least ≤ most → ArePlaced least most notes → ArePlaced least most (notes ++ record { place = most; what = what } ∷ [])
placed-snoc least most [] what le h = (le, omega arith, tt)
placed-snoc least most (n ∷ notes) what le h = (h.0, h.1, placed-snoc n.place most notes what h.1 h.2)

pub placed-next : (most : ℕ) (notes : List Note) (what : Noted) → ArePlaced 0 most notes → ArePlaced 0 most (notes ++ record { place = most; what = what } ∷ [])
placed-next most notes what h = placed-snoc 0 most notes what (omega arith) h

-- none is at a place past all
none-past : (i most : ℕ) (notes : List Note) → most < i → AreAtMost most notes → notes_at i notes ≡ []
none-past i most notes past h = none-kept (λ (n : Note). n.place == i) notes (below notes h) where
  below : (l : List Note) → AreAtMost most l → AllByRecursion (λ n. IsFalse (n.place == i)) l
  below [] k = tt
  below (n ∷ l) k = (grind (arith, nat_tests, past, k.0), below l k.1)

-- ---- deeds

-- entries without an update
abbrev pub HaveNoUpdate : List Entry → Type 0
HaveNoUpdate [] = Unit {0}
HaveNoUpdate (e ∷ entries) = ((i : ℕ) → placed_act i e.act ≡ []) × HaveNoUpdate entries

-- nothing is done behind the last note by entries without an update
deeds-past : (i most : ℕ) (notes : List Note) (more : List Entry) → most < i → AreAtMost most notes → HaveNoUpdate more → deeds_from i notes more ≡ []
unfolding deeds_from
deeds-past i most notes [] past h quiet = ap (map placed_note) (none-past i most notes past h)
deeds-past i most notes (e ∷ more) past h quiet =
    ap (λ (l : List Note). map placed_note l ++ placed_act i e.act ++ deeds_from (i + 1) notes more) (none-past i most notes past h)
    ∙ ap (λ (l : List Placed). l ++ deeds_from (i + 1) notes more) (quiet.0 i)
    ∙ deeds-past (i + 1) most notes more (omega (arith, past)) h quiet.1

-- what comes behind all notes and is no update leaves the deeds
pub deeds-later : (i : ℕ) (notes : List Note) (entries more : List Entry) → AreAtMost (i + length entries) notes → HaveNoUpdate more → deeds_from i notes (entries ++ more) ≡ deeds_from i notes entries
unfolding deeds_from
deeds-later i notes [] [] h quiet = refl
deeds-later i notes [] (e ∷ more) h quiet =
    ap (λ (l : List Placed). map placed_note (notes_at i notes) ++ l ++ deeds_from (i + 1) notes more) (quiet.0 i)
    ∙ ap (λ (l : List Placed). (map placed_note (notes_at i notes) ++ []) ++ l) (deeds-past (i + 1) (i + 0) notes more (omega arith) h quiet.1)
    ∙ append-nil (map placed_note (notes_at i notes) ++ [])
    ∙ append-nil (map placed_note (notes_at i notes))
deeds-later i notes (e ∷ entries) more h quiet =
    ap (λ (l : List Placed). map placed_note (notes_at i notes) ++ placed_act i e.act ++ l)
    (deeds-later (i + 1) notes entries more (subst (λ (n : ℕ). AreAtMost n notes) (omega arith) h) quiet)

-- an update behind all notes is one deed more, at the place where it stands
deeds-update : (i : ℕ) (notes : List Note) (entries : List Entry) (e : Entry) (d : List Placed) → AreAtMost (i + length entries) notes → placed_act (i + length entries) e.act ≡ d
    → deeds_from i notes (entries ++ e ∷ []) ≡ deeds_from i notes entries ++ d
unfolding deeds_from
deeds-update i notes [] e d h is =
    ap (λ (l : List Placed). map placed_note (notes_at i notes) ++ l ++ map placed_note (notes_at (i + 1) notes)) (ap (λ (n : ℕ). placed_act n e.act) (omega arith) ∙ is)
    ∙ ap (λ (l : List Note). map placed_note (notes_at i notes) ++ d ++ map placed_note l) (none-past (i + 1) (i + 0) notes (omega arith) h)
    ∙ append-nil (map placed_note (notes_at i notes) ++ d)
deeds-update i notes (f ∷ entries) e d h is =
    ap (λ (l : List Placed). map placed_note (notes_at i notes) ++ placed_act i f.act ++ l)
    (deeds-update (i + 1) notes entries e d (subst (λ (n : ℕ). AreAtMost n notes) (omega arith) h) (ap (λ (n : ℕ). placed_act n e.act) (omega arith) ∙ is))
    ∙ sym (append_assoc (map placed_note (notes_at i notes) ++ placed_act i f.act) (deeds_from (i + 1) notes entries) d)

-- ---- steps

-- the places of deeds are within the journal
abbrev pub AreWithin : ℕ → List Placed → Type 0
AreWithin all [] = Unit {0}
AreWithin all (d ∷ rest) = (d.0 ≤ all) × AreWithin all rest

-- a story so far stays one when nothing is done: what was passed stays met
goes-later : (X : Frame) (h more : List Entry) → IsLegal X (h ++ more) → declared more ≡ [] → (left : List Step) (rest : List Placed) (failed : Option ℕ) → failed ≡ None → AreWithin (length h) rest
    → Goes X h left rest failed → Goes X (h ++ more) left rest failed
goes-later X h more legal none _ _ _ un within ends = ends
goes-later X h more legal none _ _ _ un within (does {left = left} {rest = rest} {failed = failed} goes) = does (goes-later X h more legal none left rest failed un within.1 goes)
goes-later X h more legal none _ _ _ un within (passes {x = x} {until = until} {left = left} {rest = rest} {failed = failed} met goes) =
    passes (by rest within met) (goes-later X h more legal none left rest failed un within goes) where
      by : (r : List Placed) → AreWithin (length h) r → IsTrue (is_met X h (place_before (length h) r) x until) → IsTrue (is_met X (h ++ more) (place_before (length (h ++ more)) r) x until)
      by [] w m = met-later X h more legal none x until m
      by (d ∷ r) w m = met-within X h more d.0 x until w.0 ∙ m
goes-later X h more legal none _ _ _ un within (fails unmet) = absurd cc

-- one deed more, at the journal's end: what was awaited last is judged there as before
goes-does : (X : Frame) (h : List Entry) (d : Deed) (left : List Step) (rest : List Placed) (failed : Option ℕ) → failed ≡ None → Goes X h left rest failed → Goes X h (left ++ Does d ∷ []) (rest ++ (length h, d) ∷ []) failed
goes-does X h d _ _ _ un ends = does ends
goes-does X h d _ _ _ un (does {left = left} {rest = rest} {failed = failed} goes) = does (goes-does X h d left rest failed un goes)
goes-does X h d _ _ _ un (passes {x = x} {until = until} {left = left} {rest = rest} {failed = failed} met goes) = passes (by rest met) (goes-does X h d left rest failed un goes) where
  by : (r : List Placed) → IsTrue (is_met X h (place_before (length h) r) x until) → IsTrue (is_met X h (place_before (length h) (r ++ (length h, d) ∷ [])) x until)
  by [] m = m
  by (e ∷ r) m = m
goes-does X h d _ _ _ un (fails unmet) = absurd cc

-- a threshold that is met at the journal's end is passed
pub goes-passes : (X : Frame) (h : List Entry) (c x : ℕ) (until : Until) → IsTrue (is_met X h (length h) x until) → (left : List Step) (rest : List Placed) (failed : Option ℕ) → failed ≡ None
    → Goes X h left rest failed → Goes X h (left ++ Waits c x until ∷ []) rest failed
goes-passes X h c x until now _ _ _ un ends = passes now ends
goes-passes X h c x until now _ _ _ un (does {left = left} {rest = rest} {failed = failed} goes) = does (goes-passes X h c x until now left rest failed un goes)
goes-passes X h c x until now _ _ _ un (passes {left = left} {rest = rest} {failed = failed} met goes) = passes met (goes-passes X h c x until now left rest failed un goes)
goes-passes X h c x until now _ _ _ un (fails unmet) = absurd cc

-- and one that isn't is where the node fails
pub goes-fails : (X : Frame) (h : List Entry) (c x : ℕ) (until : Until) (more : List Step) → IsFalse (is_met X h (length h) x until) → (left : List Step) (rest : List Placed) (failed : Option ℕ) → failed ≡ None
    → Goes X h left rest failed → Goes X h (left ++ Waits c x until ∷ more) rest (Some c)
goes-fails X h c x until more unmet _ _ _ un ends = fails unmet
goes-fails X h c x until more unmet _ _ _ un (does {left = left} {rest = rest} {failed = failed} goes) = does (goes-fails X h c x until more unmet left rest failed un goes)
goes-fails X h c x until more unmet _ _ _ un (passes {left = left} {rest = rest} {failed = failed} met goes) = passes met (goes-fails X h c x until more unmet left rest failed un goes)
goes-fails X h c x until more unmet _ _ _ un (fails other) = absurd cc

-- ---- a node's story so far

within-append : (all : ℕ) (a b : List Placed) → AreWithin all a → AreWithin all b → AreWithin all (a ++ b)
within-append all [] b h k = k
within-append all (d ∷ a) b h k = (h.0, within-append all a b h.1 k)

notes-within : (i most : ℕ) (notes : List Note) → AreAtMost most notes → AreWithin most (map placed_note (notes_at i notes))
notes-within i most [] h = tt
notes-within i most (n ∷ notes) h = choose (n.place == i) (notes-within i most notes h.1) where
  choose : (b : Bool) → AreWithin most (map placed_note (notes_at i notes)) → AreWithin most (map placed_note (cond b (n ∷ notes_at i notes) (notes_at i notes)))
  choose true rest = (h.0, rest)
  choose false rest = rest

act-within : (i all : ℕ) (a : Act) → i ≤ all → AreWithin all (placed_act i a)
act-within i all (Update x op) le = (le, tt)
act-within i all (Deliver j m) le = tt
act-within i all (Bind y n) le = tt
act-within i all (Extend d) le = tt

pub deeds-within : (i all : ℕ) (notes : List Note) (entries : List Entry) → i + length entries ≡ all → AreAtMost all notes → AreWithin all (deeds_from i notes entries)
unfolding deeds_from
deeds-within i all notes [] is h = notes-within i all notes h
deeds-within i all notes (e ∷ entries) is h =
    within-append all (map placed_note (notes_at i notes) ++ placed_act i e.act) (deeds_from (i + 1) notes entries)
    (within-append all (map placed_note (notes_at i notes)) (placed_act i e.act) (notes-within i all notes h) (act-within i all e.act (omega (arith, is))))
    (deeds-within (i + 1) all notes entries (omega (arith, is)) h)

-- results do nothing and declare nothing
pub results-quiet : (more : List Entry) → unbound more ≡ [] → HaveNoUpdate more × (declared more ≡ [])
results-quiet [] h = (tt, refl)
results-quiet (e ∷ more) h = choose e.act refl (results-quiet more) where
  choose : (a : Act) → e.act ≡ a → (unbound more ≡ [] → HaveNoUpdate more × (declared more ≡ [])) → HaveNoUpdate (e ∷ more) × (declared (e ∷ more) ≡ [])
  choose (Update x op) is later = absurd (let bad = sym (ap (λ (a : Act). cond (not (is_bind a)) (e ∷ unbound more) (unbound more)) is) ∙ h in cc)
  choose (Deliver j m) is later = absurd (let bad = sym (ap (λ (a : Act). cond (not (is_bind a)) (e ∷ unbound more) (unbound more)) is) ∙ h in cc)
  choose (Extend d) is later = absurd (let bad = sym (ap (λ (a : Act). cond (not (is_bind a)) (e ∷ unbound more) (unbound more)) is) ∙ h in cc)
  choose (Bind y n) is later =
      let rest = later (sym (ap (λ (a : Act). cond (not (is_bind a)) (e ∷ unbound more) (unbound more)) is) ∙ h) in
      ((λ i. ap (placed_act i) is, rest.0), ap (λ (a : Act). declared_by a ++ declared more) is ∙ rest.1)

-- what neither updates nor declares leaves the story so far
pub quiet-goes : (X : Frame) (h more : List Entry) (notes : List Note) (done : List Step) → IsLegal X (h ++ more) → HaveNoUpdate more → declared more ≡ [] → ArePlaced 0 (length h) notes
    → Goes X h done (deeds_from 0 notes h) None → Goes X (h ++ more) done (deeds_from 0 notes (h ++ more)) None
quiet-goes X h more notes done legal quiet none placed goes =
    let most : AreAtMost (length h) notes = placed-most 0 (length h) notes placed in
    subst (λ (l : List Placed). Goes X (h ++ more) done l None) (sym (deeds-later 0 notes h more (subst (λ (n : ℕ). AreAtMost n notes) (omega arith) most) quiet))
    (goes-later X h more legal none done (deeds_from 0 notes h) None refl (deeds-within 0 (length h) notes h (omega arith) most) goes)

pub learns-goes : (X : Frame) (h more : List Entry) (notes : List Note) (done : List Step) → IsLegal X (h ++ more) → unbound more ≡ [] → ArePlaced 0 (length h) notes
    → Goes X h done (deeds_from 0 notes h) None → Goes X (h ++ more) done (deeds_from 0 notes (h ++ more)) None
learns-goes X h more notes done legal results placed goes = let quiet = results-quiet more results in quiet-goes X h more notes done legal quiet.0 quiet.1 placed goes

pub hears-goes : (X : Frame) (h : List Entry) (notes : List Note) (done : List Step) (i : ℕ) (m : Message) → IsLegal X (h ++ fed (Deliver i m) ∷ []) → ArePlaced 0 (length h) notes
    → Goes X h done (deeds_from 0 notes h) None → Goes X (h ++ fed (Deliver i m) ∷ []) done (deeds_from 0 notes (h ++ fed (Deliver i m) ∷ [])) None
hears-goes X h notes done i m legal placed goes = quiet-goes X h (fed (Deliver i m) ∷ []) notes done legal (λ k. refl, tt) refl placed goes

pub updates-goes : (X : Frame) (h : List Entry) (notes : List Note) (done : List Step) (x : ℕ) (op : Op) → IsLegal X (h ++ fed (Update x op) ∷ []) → ArePlaced 0 (length h) notes
    → Goes X h done (deeds_from 0 notes h) None → Goes X (h ++ fed (Update x op) ∷ []) (done ++ Does (Updates x op) ∷ []) (deeds_from 0 notes (h ++ fed (Update x op) ∷ [])) None
updates-goes X h notes done x op legal placed goes =
    let e : Entry = fed (Update x op) in
    let most : AreAtMost (length h) notes = placed-most 0 (length h) notes placed in
    let more : List Placed = (length h, Updates x op) ∷ [] in
    let one : deeds_from 0 notes (h ++ e ∷ []) ≡ deeds_from 0 notes h ++ more = deeds-update 0 notes h e more (subst (λ (n : ℕ). AreAtMost n notes) (omega arith) most) (ap (λ (n : ℕ). (n, Updates x op) ∷ []) (omega arith)) in
    let did : Goes X h (done ++ Does (Updates x op) ∷ []) (deeds_from 0 notes h ++ more) None = goes-does X h (Updates x op) done (deeds_from 0 notes h) None refl goes in
    let within : AreWithin (length h) (deeds_from 0 notes h ++ more) = within-append (length h) (deeds_from 0 notes h) more (deeds-within 0 (length h) notes h (omega arith) most) (omega arith, tt) in
    subst (λ (l : List Placed). Goes X (h ++ e ∷ []) (done ++ Does (Updates x op) ∷ []) l None) (sym one)
    (goes-later X h (e ∷ []) legal refl (done ++ Does (Updates x op) ∷ []) (deeds_from 0 notes h ++ more) None refl within did)

-- a note behind all others is one deed more, at the journal's end
notes-snoc : (i : ℕ) (notes : List Note) (n : Note) → notes_at i (notes ++ n ∷ []) ≡ notes_at i notes ++ notes_at i (n ∷ [])
notes-snoc i notes n = filter-append (λ (m : Note). m.place == i) notes (n ∷ [])

here-alone : (i : ℕ) (n : Note) → n.place ≡ i → notes_at i (n ∷ []) ≡ n ∷ []
here-alone i n is = ap (λ (b : Bool). cond b (n ∷ []) []) (let here : (n.place == i) ≡ true = grind (arith, nat_tests, is) in here)

elsewhere : (i : ℕ) (n : Note) → i < n.place → notes_at i (n ∷ []) ≡ []
elsewhere i n past = ap (λ (b : Bool). cond b (n ∷ []) []) (let there : (n.place == i) ≡ false = grind (arith, nat_tests, past) in there)

deeds-note : (i : ℕ) (notes : List Note) (entries : List Entry) (n : Note) → n.place ≡ i + length entries → deeds_from i (notes ++ n ∷ []) entries ≡ deeds_from i notes entries ++ placed_note n ∷ []
unfolding deeds_from
deeds-note i notes [] n is =
    ap (map placed_note) (notes-snoc i notes n ∙ ap (λ (l : List Note). notes_at i notes ++ l) (here-alone i n (omega (arith, is)))) ∙ map-append placed_note (notes_at i notes) (n ∷ [])
deeds-note i notes (e ∷ entries) n is =
    ap (λ (l : List Note). map placed_note l ++ placed_act i e.act ++ deeds_from (i + 1) (notes ++ n ∷ []) entries)
    (notes-snoc i notes n ∙ ap (λ (l : List Note). notes_at i notes ++ l) (elsewhere i n (omega (arith, is))) ∙ append-nil (notes_at i notes))
    ∙ ap (λ (l : List Placed). map placed_note (notes_at i notes) ++ placed_act i e.act ++ l) (deeds-note (i + 1) notes entries n (omega (arith, is)))
    ∙ sym (append_assoc (map placed_note (notes_at i notes) ++ placed_act i e.act) (deeds_from (i + 1) notes entries) (placed_note n ∷ []))

pub notes-goes : (X : Frame) (h : List Entry) (notes : List Note) (done : List Step) (what : Noted) → Goes X h done (deeds_from 0 notes h) None
    → Goes X h (done ++ Does (deed_of what) ∷ []) (deeds_from 0 (notes ++ record { place = length h; what = what } ∷ []) h) None
notes-goes X h notes done what goes =
    let n : Note = record { place = length h; what = what } in
    subst (λ (l : List Placed). Goes X h (done ++ Does (deed_of what) ∷ []) l None) (sym (deeds-note 0 notes h n (omega arith))) (goes-does X h (deed_of what) done (deeds_from 0 notes h) None refl goes)

-- what was sent stays what it was
letters-most : (X : Frame) (h more : List Entry) (notes : List Note) → AreAtMost (length h) notes → letters_in X (h ++ more) notes ≡ letters_in X h notes
unfolding letters_in
letters-most X h more [] most = refl
letters-most X h more (n ∷ notes) most =
    ap (λ (l : List Message). l ++ letters_in X (h ++ more) notes) (one n.what) ∙ ap (λ (l : List Message). message_noted X h n.place n.what ++ l) (letters-most X h more notes most.1) where
      one : (what : Noted) → message_noted X (h ++ more) n.place what ≡ message_noted X h n.place what
      one Sent = ap (λ (m : Message). m ∷ []) (message-within X h more n.place most.0)
      one (Printed x) = refl

pub letters-later : (X : Frame) (h more : List Entry) (notes : List Note) → ArePlaced 0 (length h) notes → letters_in X (h ++ more) notes ≡ letters_in X h notes
letters-later X h more notes placed = letters-most X h more notes (placed-most 0 (length h) notes placed)
