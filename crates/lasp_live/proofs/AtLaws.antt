-- How a feeder comes from one command to the next.
use Rattle.std.proofs.Common.{◌≡◌, ℕ, ◌+◌, ◌<◌, ◌≤◌, ◌^◌, Bool, true, false, IsTrue, List, [], ◌∷◌, ◌++◌, length, map, Option, Some, None, refl, sym, ap, subst, ◌∙◌, append-nil, append_assoc, arith}
use Rattle.std.specs.Prelude.{◌≢◌, IsFalse, drop, slice_get}
use Rattle.std.specs.Arc.{arc_value}
use Rattle.std.specs.declared.alloc.Global.{Global}
use Rattle.std.specs.declared.sync.Arc.{Arc}
use Rattle.std.specs.declared.vec.Vec.{Vec}
use Rattle.std.proofs.lemmas.List.{length-append, map-append}
use Rattle.std.proofs.lemmas.Option.{slice_get_within}
use Rattle.model_core.specs.Peer.{peer_of}
use Rattle.model_core.proofs.SourceLaws.{sources-length}
use Rattle.model_graph.specs.Evaluation.{content_at, eval}
use Rattle.model_graph.specs.Graph.{Counter, Decl, kind_at}
use Rattle.model_journal.specs.Callers.{AreMadeByTheirCallers}
use Rattle.model_journal.specs.Entry.{Act, Update, Deliver, Bind, Extend, Entry, Frame}
use Rattle.model_journal.specs.Journal.{declared, declared_by, graph, sources, vals}
use Rattle.model_journal.specs.Legal.{IsLegal}
use Rattle.model_journal.proofs.CleanLaws.{vals-length}
use Rattle.model_journal.proofs.JournalLaws.{counts-length}
use Rattle.model_journal.proofs.LegalLaws.{legal-first, legal-last}
use Rattle.model_graph.specs.Message.{Message}
use Rattle.model_runs.specs.Calls.{fed}
use Rattle.model_states.specs.Counts.{count_at}
use Rattle.model_states.specs.Threshold.{Threshold, meets}
use Rattle.model_states.specs.Update.{Op}
use Rattle.model_world.specs.Command.{Command, Script, Until}
use Rattle.model_world.specs.Lawful.{IsLawful, IsWithinLimits, opening_stage}
use Rattle.model_world.specs.Line.{shown_content}
use Rattle.model_world.specs.World as world
use Rattle.model_world.specs.World.{Peer, fresh_peer, message_at, updated}
use Rattle.model_live.specs.Knows.{Knows}
use Rattle.model_live.specs.Letter.{IsLetter}
use Rattle.model_live.specs.Lived.{heard_of}
use Rattle.model_live.specs.Steps.{Updates, Sends, Prints, Step, Does, Waits, step_at, steps}
use Rattle.model_live.specs.Story as plain
use Rattle.model_live.specs.Story.{ArePlaced, Goes, Placed, deed_of, deeds_from, placed_act, letters_in, message_after, message_noted, shown_after, is_met}
use Rattle.model_live.specs.Together.{after_steps}
use Rattle.model_live.proofs.AloneLaws.{Suits, steps-suited, suited-among}
use Rattle.model_live.proofs.HearLaws.{graph-opens}
use Rattle.model_live.proofs.NumberLaws.{heard-append}
use Rattle.model_live.proofs.StoryLaws.{AreAtMost, HaveNoUpdate, goes-passes, letters-later, message-within, notes-goes, placed-later, placed-most, placed-next, quiet-goes, take-begin, updates-goes}
use Rattle.model_live.proofs.UpdateLaws.{knows-update}
use Rattle.model_live.proofs.WithinLaws.{sent-letter}
use Rattle.lasp_state.specs.declared.state.State.{State}
use Rattle.lasp_live.specs.Diary.{AreTold, IsTold, note_of, noted_of, notes_of}
use Rattle.lasp_live.specs.Did.{IsStepAt}
use Rattle.lasp_live.specs.Ends.{Box, In, IsUnput, Out}
use Rattle.lasp_live.specs.Fed.{Setting, frame_in, HasHeard, has_ended, Hears, HearsMore, IsHearing, AreHearings, IsAt}
use Rattle.lasp_live.specs.Mail.{letters_so_far, mails}
use Rattle.lasp_live.specs.Own.{CountsOwn, HasUpdated, peer_before, steps_before, total_in}
use Rattle.lasp_live.specs.Posted.{AreOfTheSame, HavePut}
use Rattle.lasp_live.specs.Steady.{MayFeed}
use Rattle.lasp_live.specs.Turns.{Feeds, Learns}
use Rattle.lasp_live.specs.declared.diary.Diary.{Diary}
use Rattle.lasp_live.specs.declared.diary.Note.{Note}
use Rattle.lasp_live.specs.declared.diary.Noted.{Noted}
use Rattle.lasp_live.specs.declared.diary.Noted.TheVariants.{Send, Print}
use Rattle.lasp_live.specs.declared.log.Log.{Log}
use Rattle.lasp_live.specs.declared.own.Own.{Own}
use Rattle.lasp_live.proofs.OwnStepLaws.{all-around, before-next, before-skip, counts-same, counts-updates, peer-still, peer-updates}
use Rattle.lasp_live.proofs.PostLaws.{found}
use Rattle.lasp_live.proofs.TakeLaws.{hears-learned, made-first, many-heard, more-learned, so-far-next}

-- ---- what was told stays told

shown-within : (X : Frame) (h more : List Entry) (n x : ℕ) → n ≤ length h → shown_after X (h ++ more) n x ≡ shown_after X h n x
shown-within X h more n x low = ap (λ (l : List Entry). content_at (eval (graph X l) (sources X l)) x) (take-begin h more n low)

told-one : (X : Frame) (h more : List Entry) (n : ℕ) (what : Noted) → n ≤ length h → IsTold X h n what → IsTold X (h ++ more) n what
told-one X h more n (Send m) low told = told ∙ sym (message-within X h more n low)
told-one X h more n (Print x s) low told =
    let same = sym (shown-within X h more n x low) in
    (told.0, told.1 ∙ same, told.2 ∙ ap (shown_content (kind_at X.opening x)) same)

pub told-later : (X : Frame) (h more : List Entry) (notes : List Note) → AreAtMost (length h) (map note_of notes) → AreTold X h notes → AreTold X (h ++ more) notes
told-later X h more [] most told = tt
told-later X h more (n ∷ notes) most told = (told-one X h more n.place n.what most.0 told.0, told-later X h more notes most.1 told.1)

told-next : (X : Frame) (h : List Entry) (notes : List Note) (n : Note) → AreTold X h notes → IsTold X h n.place n.what → AreTold X h (notes ++ n ∷ [])
told-next X h [] n told one = (one, tt)
told-next X h (m ∷ notes) n told one = (told.0, told-next X h notes n told.1 one)

letters-next : (X : Frame) (h : List Entry) (notes : List plain.Note) (n : plain.Note) → letters_in X h (notes ++ n ∷ []) ≡ letters_in X h notes ++ message_noted X h n.place n.what
unfolding letters_in
letters-next X h [] n = append-nil (message_noted X h n.place n.what)
letters-next X h (m ∷ notes) n =
    ap (λ (l : List Message). message_noted X h m.place m.what ++ l) (letters-next X h notes n)
    ∙ sym (append_assoc (message_noted X h m.place m.what) (letters_in X h notes) (message_noted X h n.place n.what))

-- ---- entries that do nothing

hearings-quiet : (more : List Entry) → AreHearings more → HaveNoUpdate more × (declared more ≡ [])
hearings-quiet [] h = (tt, refl)
hearings-quiet (e ∷ more) h = choose e.act refl (hearings-quiet more h.1) where
  Quiet : List Entry → Type 0
  Quiet l = HaveNoUpdate l × (declared l ≡ [])

  choose : (a : Act) → e.act ≡ a → Quiet more → Quiet (e ∷ more)
  choose (Update x op) is rest = absurd (subst IsHearing is h.0)
  choose (Deliver j m) is rest = ((λ i. ap (placed_act i) is, rest.0), ap (λ (a : Act). declared_by a ++ declared more) is ∙ rest.1)
  choose (Bind y n) is rest = ((λ i. ap (placed_act i) is, rest.0), ap (λ (a : Act). declared_by a ++ declared more) is ∙ rest.1)
  choose (Extend d) is rest = absurd (subst IsHearing is h.0)

-- a journal that goes on by what is no deed
at-more : (s : Setting) (i : ℕ) (h more : List Entry) (log : Log) (ended : Vec Bool Global) (outs : List Out) (ins rest : List In) → IsAt s i h log outs ins → AreHearings more
    → Hears s (h ++ more) log.own ended.items rest → IsAt s i (h ++ more) (record log { ended = ended }) outs rest
at-more s i h more log ended outs ins rest at hearings hears =
    let X : Frame = frame_in s in
    let notes : List plain.Note = notes_of log.diary in
    let quiet = hearings-quiet more hearings in
    let letters : letters_in X (h ++ more) notes ≡ letters_in X h notes = letters-later X h more notes at.placed in
    record {
      hears = hears;
      unfailed = at.unfailed;
      placed = placed-later 0 (length h) (length (h ++ more)) notes (omega (arith, length-append h more)) at.placed;
      goes = quiet-goes X h more notes (steps_before s.script s.me i) hears.knows.legal quiet.0 quiet.1 at.placed at.goes;
      told = told-later X h more log.diary.notes.items (placed-most 0 (length h) notes at.placed) at.told;
      own = at.own;
      few = at.few;
      sent = at.sent ∙ ap (λ (l : List Message). length l) (sym letters);
      put = λ p o there other. at.put p o there other ∙ ap letters_so_far (sym letters);
      unput = at.unput;
    }

pub at-hears : (s : Setting) (i : ℕ) (h k : List Entry) (log : Log) (ended : Vec Bool Global) (outs : List Out) (ins rest : List In) → IsAt s i h log outs ins → HearsMore h k
    → Hears s k log.own ended.items rest → IsAt s i k (record log { ended = ended }) outs rest
at-hears s i h k log ended outs ins rest at more hears =
    subst (λ (l : List Entry). IsAt s i l (record log { ended = ended }) outs rest) (sym more.is)
    (at-more s i h more.more log ended outs ins rest at more.hearings (subst (λ (l : List Entry). Hears s l log.own ended.items rest) more.is hears))

pub at-learned : (s : Setting) (i : ℕ) (h k : List Entry) (log : Log) (outs : List Out) (ins : List In) → IsAt s i h log outs ins → Learns h k → IsLegal (frame_in s) k → AreMadeByTheirCallers k → IsAt s i k log outs ins
at-learned s i h k log outs ins at learned legal made =
    at-hears s i h k log log.ended outs ins ins at (more-learned h k learned) (hears-learned s h k log.own log.ended.items ins at.hears learned legal made)

-- ---- updates

knows-new : (g : List Decl) (script : Script) (p : ℕ) (h : List Entry) (r : Peer) (new : Own) → Knows g script p (count_at r.counts p) (λ y. count_at (content_at r.contents y).counts p) h → new.updates ≡ count_at r.counts p
    → ((y : ℕ) → y < length g → kind_at g y ≡ Counter → total_in new y ≡ count_at (content_at r.contents y).counts p) → Knows g script p new.updates (total_in new) h
knows-new g script p h r new k updates totals = record {
  legal = k.legal;
  callers = k.callers;
  undeclared = k.undeclared;
  updates = k.updates ∙ sym updates;
  totals = λ y low kind. k.totals y low kind ∙ sym (totals y low kind);
  known = k.known;
  within = k.within;
  others = k.others;
}

heard-update : (h : List Entry) (q x : ℕ) (o : Op) → heard_of q (h ++ fed (Update x o) ∷ []) ≡ heard_of q h
unfolding heard_of
heard-update h q x o = heard-append q h (fed (Update x o) ∷ []) ∙ append-nil (heard_of q h)

still-heard : (h : List Entry) (q x : ℕ) (o : Op) (i : In) (ended : Bool) → HasHeard h q i ended → HasHeard (h ++ fed (Update x o) ∷ []) q i ended
still-heard h q x o i ended heard = record { messages = heard.messages; got = heard.got; heard = heard-update h q x o ∙ heard.heard }

pub at-update : (s : Setting) (i : ℕ) (h : List Entry) (log : Log) (own : Own) (outs : List Out) (ins : List In) (x : ℕ) (o : Op) → IsLawful s.graph s.script → IsWithinLimits s.script → s.me < s.script.nodes → IsAt s i h log outs ins
    → IsStepAt s.script s.me i (Does (Updates x o)) → IsLegal (frame_in s) (h ++ fed (Update x o) ∷ []) → AreMadeByTheirCallers (h ++ fed (Update x o) ∷ []) → HasUpdated x o log.own own
    → IsAt s (i + 1) (h ++ fed (Update x o) ∷ []) (record log { own = own }) outs ins
at-update s i h log own outs ins x o lawful limits member at step legal made did =
    let X : Frame = frame_in s in
    let e : Entry = fed (Update x o) in
    let notes : List plain.Note = notes_of log.diary in
    let all = all-around s.script s.me i (Does (Updates x o)) step in
    let opens : graph X h ≡ s.graph = graph-opens X h at.hears.knows.undeclared in
    let low : x < length s.graph = subst (λ (l : List Decl). x < length l) opens (legal-last X h e legal).0 in
    let suits : Suits o (kind_at s.graph x) =
    suited-among s.graph (steps s.me 1 s.script.commands) (steps_before s.script s.me i) (Does (Updates x o)) (steps s.me (i + 2) (drop (i + 1) s.script.commands)) all
    (steps-suited s.graph [] s.script.nodes s.me 1 (opening_stage s.graph) (sym (append-nil s.graph)) s.script.commands lawful.each) low in
    let early : i < 100000 = (let inside = slice_get_within s.script.commands i step.command step.at in omega (arith, inside, limits.few)) in
    let counts : CountsOwn s.graph s.script s.me (i + 1) own = counts-updates s.graph s.script s.me i x o log.own own member early low suits step at.own did in
    let next = peer-updates s.graph s.script s.me i x o step in
    let knows : Knows s.graph s.script s.me own.updates (total_in own) (h ++ e ∷ []) =
    knows-new s.graph s.script s.me (h ++ e ∷ []) (updated s.me x o (peer_before s.graph s.script s.me i)) own
    (knows-update s.graph s.script s.me x log.own.updates (total_in log.own) o (steps_before s.script s.me i) (steps s.me (i + 2) (drop (i + 1) s.script.commands)) h lawful member all at.hears.knows at.own.updates at.own.totals legal made)
    (counts.updates ∙ ap (λ (r : Peer). count_at r.counts s.me) next) (λ y there kind. counts.totals y there kind ∙ ap (λ (r : Peer). count_at (content_at r.contents y).counts s.me) next) in
    let letters : letters_in X (h ++ e ∷ []) notes ≡ letters_in X h notes = letters-later X h (e ∷ []) notes at.placed in
    record {
      hears = record {
        knows = knows;
        many = at.hears.many;
        itself = at.hears.itself;
        heard = λ q i there other. still-heard h q x o i (has_ended log.ended.items q) (at.hears.heard q i there other);
        untaken = at.hears.untaken;
      };
      unfailed = at.unfailed;
      placed = placed-later 0 (length h) (length (h ++ e ∷ [])) notes (omega (arith, length-append h (e ∷ []))) at.placed;
      goes = subst (λ (l : List Step). Goes X (h ++ e ∷ []) l (deeds_from 0 notes (h ++ e ∷ [])) None) (sym (before-next s.script s.me i (Does (Updates x o)) step))
          (updates-goes X h notes (steps_before s.script s.me i) x o legal at.placed at.goes);
      told = told-later X h (e ∷ []) log.diary.notes.items (placed-most 0 (length h) notes at.placed) at.told;
      own = counts;
      few = omega (arith, at.few);
      sent = at.sent ∙ ap (λ (l : List Message). length l) (sym letters);
      put = λ p o there other. at.put p o there other ∙ ap letters_so_far (sym letters);
      unput = at.unput;
    }

-- an update behind results
pub at-updated : (s : Setting) (i : ℕ) (h found k : List Entry) (log : Log) (own : Own) (outs : List Out) (ins : List In) (x : ℕ) (o : Op) → IsLawful s.graph s.script → IsWithinLimits s.script → s.me < s.script.nodes → IsAt s i h log outs ins
    → IsStepAt s.script s.me i (Does (Updates x o)) → Feeds (Update x o) found h k → IsLegal (frame_in s) k → AreMadeByTheirCallers k → HasUpdated x o log.own own → IsAt s (i + 1) k (record log { own = own }) outs ins
at-updated s i h found k log own outs ins x o lawful limits member at step feeds legal made did =
    let e : Entry = fed (Update x o) in
    let whole : IsLegal (frame_in s) (found ++ e ∷ []) = subst (IsLegal (frame_in s)) feeds.is legal in
    let callers : AreMadeByTheirCallers (found ++ e ∷ []) = subst AreMadeByTheirCallers feeds.is made in
    let before : IsAt s i found log outs ins = at-learned s i h found log outs ins at feeds.learned (legal-first (frame_in s) found (e ∷ []) whole) (made-first found (e ∷ []) callers) in
    subst (λ (l : List Entry). IsAt s (i + 1) l (record log { own = own }) outs ins) (sym feeds.is) (at-update s i found log own outs ins x o lawful limits member before step whole callers did)

-- the variable that was updated is one of the graph
pub update-var : (s : Setting) (i : ℕ) (h found k : List Entry) (log : Log) (outs : List Out) (ins : List In) (x : ℕ) (o : Op) → IsAt s i h log outs ins → Feeds (Update x o) found h k → IsLegal (frame_in s) k → AreMadeByTheirCallers k → x < length s.graph
update-var s i h found k log outs ins x o at feeds legal made =
    let e : Entry = fed (Update x o) in
    let whole : IsLegal (frame_in s) (found ++ e ∷ []) = subst (IsLegal (frame_in s)) feeds.is legal in
    let callers : AreMadeByTheirCallers (found ++ e ∷ []) = subst AreMadeByTheirCallers feeds.is made in
    let before : IsAt s i found log outs ins = at-learned s i h found log outs ins at feeds.learned (legal-first (frame_in s) found (e ∷ []) whole) (made-first found (e ∷ []) callers) in
    subst (λ (l : List Decl). x < length l) (graph-opens (frame_in s) found before.hears.knows.undeclared) (legal-last (frame_in s) found e whole).0

-- so few commands count no more than a number of 64 bits
pub own-room : (s : Setting) (i : ℕ) (h : List Entry) (log : Log) (outs : List Out) (ins : List In) (st : Step) → IsWithinLimits s.script → IsStepAt s.script s.me i st → IsAt s i h log outs ins → (log.own.updates < 2 ^ 63) × ((x : ℕ) → total_in log.own x < 2 ^ 63)
own-room s i h log outs ins st limits step at =
    let early : i < 100000 = (let inside = slice_get_within s.script.commands i step.command step.at in omega (arith, inside, limits.few)) in
    (omega (arith, at.own.few, early), λ x. (let little = at.own.little x in omega (arith, little, early)))

-- ---- notes

at-noted : (s : Setting) (i : ℕ) (h : List Entry) (log : Log) (what : Noted) (diary : Diary) (sent : ℕ) (outs rest : List Out) (ins : List In) → IsAt s i h log outs ins → IsStepAt s.script s.me i (Does (deed_of (noted_of what)))
    → ((r : Peer) → after_steps s.me (Does (deed_of (noted_of what)) ∷ []) r ≡ r) → IsTold (frame_in s) h (length h) what
    → diary.notes.items ≡ log.diary.notes.items ++ record { place = length h; what = what } ∷ [] → diary.failed ≡ log.diary.failed → sent ≤ i + 1
    → (letters : List Message) → letters_in (frame_in s) h (notes_of log.diary) ++ message_noted (frame_in s) h (length h) (noted_of what) ≡ letters → sent ≡ length letters
    → ((p : ℕ) (o : Out) → slice_get rest p ≡ Some o → p ≢ s.me → mails o.put ≡ letters_so_far letters) → IsUnput rest s.me → IsAt s (i + 1) h (record log { diary = diary; sent = sent }) rest ins
at-noted s i h log what diary sent outs rest ins at step still told noted unfailed few letters are many put unput =
    let X : Frame = frame_in s in
    let n : Note = record { place = length h; what = what } in
    let notes : List plain.Note = notes_of log.diary in
    let next : notes_of diary ≡ notes ++ note_of n ∷ [] = ap (map note_of) noted ∙ map-append note_of log.diary.notes.items (n ∷ []) in
    let all : letters_in X h (notes_of diary) ≡ letters = ap (letters_in X h) next ∙ letters-next X h notes (note_of n) ∙ are in
    record {
      hears = at.hears;
      unfailed = unfailed ∙ at.unfailed;
      placed = subst (ArePlaced 0 (length h)) (sym next) (placed-next (length h) notes (noted_of what) at.placed);
      goes = subst (λ (l : List Step). Goes X h l (deeds_from 0 (notes_of diary) h) None) (sym (before-next s.script s.me i (Does (deed_of (noted_of what))) step))
          (subst (λ (ns : List plain.Note). Goes X h (steps_before s.script s.me i ++ Does (deed_of (noted_of what)) ∷ []) (deeds_from 0 ns h) None) (sym next)
          (notes-goes X h notes (steps_before s.script s.me i) (noted_of what) at.goes));
      told = subst (AreTold X h) (sym noted) (told-next X h log.diary.notes.items n at.told told);
      own = counts-same s.graph s.script s.me i log.own (peer-still s.graph s.script s.me i (Does (deed_of (noted_of what))) step still) at.own;
      few = few;
      sent = many ∙ ap (λ (l : List Message). length l) (sym all);
      put = λ p o there other. put p o there other ∙ ap letters_so_far (sym all);
      unput = unput;
    }

pub at-printed : (s : Setting) (i : ℕ) (h : List Entry) (log : Log) (x : ℕ) (a : Arc State Global) (diary : Diary) (outs : List Out) (ins : List In) → IsAt s i h log outs ins → IsStepAt s.script s.me i (Does (Prints x))
    → IsTold (frame_in s) h (length h) (Print x a) → diary.notes.items ≡ log.diary.notes.items ++ record { place = length h; what = Print x a } ∷ [] → diary.failed ≡ log.diary.failed → IsAt s (i + 1) h (record log { diary = diary }) outs ins
unfolding after_steps
at-printed s i h log x a diary outs ins at step told noted unfailed =
    let letters : List Message = letters_in (frame_in s) h (notes_of log.diary) in
    at-noted s i h log (Print x a) diary log.sent outs outs ins at step (λ r. refl) told noted unfailed (omega (arith, at.few)) letters (append-nil letters) at.sent at.put at.unput

pub at-sent : (s : Setting) (i : ℕ) (h : List Entry) (log : Log) (a : Arc Message Global) (diary : Diary) (outs rest : List Out) (ins : List In) → IsAt s i h log outs ins → IsStepAt s.script s.me i (Does Sends)
    → arc_value a ≡ message_after (frame_in s) h (length h) → diary.notes.items ≡ log.diary.notes.items ++ record { place = length h; what = Send a } ∷ [] → diary.failed ≡ log.diary.failed
    → AreOfTheSame outs rest → HavePut s.me (Some (arc_value a)) outs rest → IsAt s (i + 1) h (record log { diary = diary; sent = log.sent + 1 }) rest ins
unfolding after_steps
at-sent s i h log a diary outs rest ins at step told noted unfailed same put =
    let X : Frame = frame_in s in
    let before : List Message = letters_in X h (notes_of log.diary) in
    let letters : List Message = before ++ arc_value a ∷ [] in
    at-noted s i h log (Send a) diary (log.sent + 1) outs rest ins at step (λ r. refl) told noted unfailed (omega (arith, at.few)) letters (ap (λ (m : Message). before ++ m ∷ []) (sym told))
    (omega (arith, at.sent, length-append before (arc_value a ∷ [])))
    (λ p o there other. (let was = found outs p (omega (arith, slice_get_within rest p o there, same.many)) in
    put.each p was.0 o was.1 there other ∙ ap (λ (l : List (Option Message)). l ++ Some (arc_value a) ∷ []) (at.put p was.0 was.1 other) ∙ sym (so-far-next before (arc_value a))))
    (λ o there. at.unput o (sym put.itself ∙ there))

-- ---- thresholds and commands of others

pub at-passed : (s : Setting) (i c x : ℕ) (until : Until) (h : List Entry) (log : Log) (outs : List Out) (ins : List In) → IsAt s i h log outs ins → IsStepAt s.script s.me i (Waits c x until)
    → IsTrue (is_met (frame_in s) h (length h) x until) → IsAt s (i + 1) h log outs ins
unfolding after_steps
at-passed s i c x until h log outs ins at step met = record {
  hears = at.hears;
  unfailed = at.unfailed;
  placed = at.placed;
  goes = subst (λ (l : List Step). Goes (frame_in s) h l (deeds_from 0 (notes_of log.diary) h) None) (sym (before-next s.script s.me i (Waits c x until) step))
      (goes-passes (frame_in s) h c x until met (steps_before s.script s.me i) (deeds_from 0 (notes_of log.diary) h) None refl at.goes);
  told = at.told;
  own = counts-same s.graph s.script s.me i log.own (peer-still s.graph s.script s.me i (Waits c x until) step (λ r. refl)) at.own;
  few = omega (arith, at.few);
  sent = at.sent;
  put = at.put;
  unput = at.unput;
}

-- a threshold that was asked for at the end of a journal which went on by results
pub at-met : (s : Setting) (i c x : ℕ) (until : Until) (t : Threshold) (met : Bool) (h k : List Entry) (log : Log) (outs : List Out) (ins : List In) → IsAt s i h log outs ins → Learns h k → IsLegal (frame_in s) k → AreMadeByTheirCallers k → IsStepAt s.script s.me i (Waits c x until)
    → t ≡ world.threshold_of [] until → met ≡ meets t (shown_after (frame_in s) k (length k) x) → met ≡ true → IsAt s (i + 1) k log outs ins
at-met s i c x until t met h k log outs ins at learned legal made step same asked holds =
    at-passed s i c x until k log outs ins (at-learned s i h k log outs ins at learned legal made) step (ap (λ (u : Threshold). meets u (shown_after (frame_in s) k (length k) x)) (sym same) ∙ sym asked ∙ holds)

pub at-unmet : (s : Setting) (x : ℕ) (until : Until) (t : Threshold) (met : Bool) (k : List Entry) → t ≡ world.threshold_of [] until → met ≡ meets t (shown_after (frame_in s) k (length k) x) → met ≡ false → IsFalse (is_met (frame_in s) k (length k) x until)
at-unmet s x until t met k same asked fails = ap (λ (u : Threshold). meets u (shown_after (frame_in s) k (length k) x)) (sym same) ∙ sym asked ∙ fails

pub at-skipped : (s : Setting) (i : ℕ) (k : Command) (h : List Entry) (log : Log) (outs : List Out) (ins : List In) → IsAt s i h log outs ins → slice_get s.script.commands i ≡ Some k → step_at s.me (i + 1) k ≡ [] → IsAt s (i + 1) h log outs ins
at-skipped s i k h log outs ins at there none =
    let same : steps_before s.script s.me (i + 1) ≡ steps_before s.script s.me i = before-skip s.script s.me i k there none in
    record {
      hears = at.hears;
      unfailed = at.unfailed;
      placed = at.placed;
      goes = subst (λ (l : List Step). Goes (frame_in s) h l (deeds_from 0 (notes_of log.diary) h) None) (sym same) at.goes;
      told = at.told;
      own = counts-same s.graph s.script s.me i log.own (ap (λ (l : List Step). after_steps s.me l (fresh_peer s.graph s.script.nodes)) same) at.own;
      few = omega (arith, at.few);
      sent = at.sent;
      put = at.put;
      unput = at.unput;
    }

-- ---- what is sent

-- what a node sends that knows what such nodes know is a letter
pub letter-sent : (s : Setting) (made : ℕ) (counted : ℕ → ℕ) (h : List Entry) → Knows s.graph s.script s.me made counted h → IsLetter s.graph s.script (message_at (graph (frame_in s) h) (peer_of (frame_in s) h))
letter-sent s made counted h k =
    let X : Frame = frame_in s in
    let opens : graph X h ≡ s.graph = graph-opens X h k.undeclared in
    subst (λ (g : List Decl). IsLetter s.graph s.script (message_at g (peer_of X h))) (sym opens)
    (sent-letter s.graph s.script (peer_of X h) (sources-length (graph X h) (vals X h) (vals-length X h k.legal) ∙ ap (λ (l : List Decl). length l) opens) (counts-length X h k.legal) k.within k.known)

-- as many letters were put as were sent
pub put-many : (s : Setting) (i : ℕ) (h : List Entry) (log : Log) (outs : List Out) (ins : List In) → IsAt s i h log outs ins → (p : ℕ) (o : Out) → slice_get outs p ≡ Some o → p ≢ s.me → length o.put ≡ log.sent
put-many s i h log outs ins at p o there other = many-heard o.put (letters_in (frame_in s) h (notes_of log.diary)) (at.put p o there other) ∙ sym at.sent

-- the ends that remain are of the same mailboxes
pub may-posted : (s : Setting) (boxes : List Box) (outs rest : List Out) (ins : List In) → MayFeed s boxes outs ins → AreOfTheSame outs rest → MayFeed s boxes rest ins
may-posted s boxes outs rest ins may same = record {
  graph = may.graph;
  lawful = may.lawful;
  limits = may.limits;
  live = may.live;
  small = may.small;
  member = may.member;
  ends = record {
    many = may.ends.many;
    outs_many = same.many ∙ may.ends.outs_many;
    ins_many = may.ends.ins_many;
    planned = may.ends.planned;
    outs_of = λ p o there. (let was = found outs p (omega (arith, slice_get_within rest p o there, same.many)) in may.ends.outs_of p was.0 was.1 ∙ ap (λ (b : Box). Some b) (sym (same.of p was.0 o was.1 there)));
    ins_of = may.ends.ins_of;
  };
}

pub ruleset doings = (at-learned, at-hears, at-updated, at-printed, at-sent, at-met, at-unmet, at-skipped, update-var, own-room, letter-sent, put-many, may-posted)
