-- Journals that go on by results while a command is done.
use Rattle.std.proofs.Common.{◌≡◌, ℕ, ◌+◌, ◌<◌, ◌^◌, IsTrue, Bool, true, false, cond, not, List, [], ◌∷◌, ◌++◌, length, refl, sym, ap, subst, ◌∙◌, append_assoc, arith}
use Rattle.std.specs.Arc.{arc_value}
use Rattle.std.specs.Prelude.{Result, Ok, Err, OnOk, Some}
use Rattle.std.specs.declared.alloc.Global.{Global}
use Rattle.std.specs.declared.sync.Arc.{Arc}
use Rattle.std.proofs.lemmas.List.{take_all}
use Rattle.std.proofs.lemmas.Option.{slice_get_within}
use Rattle.model_core.specs.Peer.{peer_of}
use Rattle.model_graph.specs.Graph.{Decl, kind_at}
use Rattle.model_graph.specs.Lawful as lawful
use Rattle.model_journal.specs.Callers.{AreMadeByTheirCallers}
use Rattle.model_journal.specs.Entry.{Entry, Frame}
use Rattle.model_journal.specs.Journal.{declared, graph}
use Rattle.model_journal.specs.Legal.{IsLegal}
use Rattle.model_journal.proofs.LegalLaws.{legal-first}
use Rattle.model_graph.specs.Message.{Message}
use Rattle.model_runs.specs.Calls.{is_bind, unbound}
use Rattle.model_states.specs.Threshold.{Shape, Threshold, meets, suits}
use Rattle.model_world.specs.Command.{Until}
use Rattle.model_world.specs.Lawful.{IsWithinLimits}
use Rattle.model_world.specs.World.{message_at}
use Rattle.model_live.specs.Letter.{IsLetter}
use Rattle.model_live.specs.Steps.{Sends, Prints, Step, Does, Waits}
use Rattle.model_live.specs.Story.{message_after, shown_after}
use Rattle.model_live.proofs.EndLaws.{kept-results}
use Rattle.model_live.proofs.HearLaws.{graph-opens}
use Rattle.model_live.proofs.StoryLaws.{declared-append, results-quiet}
use Rattle.lasp_core.specs.Core.{state_after}
use Rattle.lasp_graph.specs.States.{Held, held_of}
use Rattle.lasp_state.specs.State.{content_of, shape_of}
use Rattle.lasp_state.specs.declared.state.State.{State}
use Rattle.lasp_live.specs.Diary.{IsTold}
use Rattle.lasp_live.specs.Did.{HasDone, HasPassed, HasWaited, IsStepAt}
use Rattle.lasp_live.specs.Ends.{In, Out}
use Rattle.lasp_live.specs.Fed.{Setting, frame_in, IsAt}
use Rattle.lasp_live.specs.Own.{total_in}
use Rattle.lasp_live.specs.Posted.{AreOfTheSame, HavePut}
use Rattle.lasp_live.specs.Turns.{AreEvaluated, Learns}
use Rattle.lasp_live.specs.declared.diary.Diary.{Diary}
use Rattle.lasp_live.specs.declared.diary.Noted.TheVariants.{Send, Print}
use Rattle.lasp_live.specs.declared.log.Log.{Log}
use Rattle.lasp_live.proofs.AtLaws.{at-learned, at-printed, at-sent, letter-sent}
use Rattle.lasp_live.proofs.SettledLaws.{print-told, settled-shown}
use Rattle.lasp_live.proofs.TakeLaws.{made-first}

-- ---- what results leave

pub undeclared-learned : (h k : List Entry) → declared h ≡ [] → Learns h k → declared k ≡ []
undeclared-learned h k none learned =
    ap declared learned.is ∙ declared-append h learned.more ∙ (λ i. none i ++ (results-quiet learned.more learned.results).1 i)

-- the graph is the one that the replica opened with
pub opened : (X : Frame) (h k : List Entry) → declared h ≡ [] → Learns h k → graph X k ≡ X.opening
opened X h k none learned = graph-opens X k (undeclared-learned h k none learned)

-- so a variable of the one is one of the other
pub opened-var : (X : Frame) (h k : List Entry) (x : ℕ) → declared h ≡ [] → Learns h k → x < length X.opening → x < length (graph X k)
opened-var X h k x none learned low = subst (λ (g : List Decl). x < length g) (sym (opened X h k none learned)) low

-- ---- results, and results again

results-both : (a b : List Entry) → unbound a ≡ [] → unbound b ≡ [] → unbound (a ++ b) ≡ []
results-both a b first next = append a b ∙ (λ i. first i ++ next i) where
  append : (h k : List Entry) → unbound (h ++ k) ≡ unbound h ++ unbound k
  append [] k = refl
  append (e ∷ h) k =
      elim (not (is_bind e.act)) as (λ b. cond b (e ∷ unbound (h ++ k)) (unbound (h ++ k)) ≡ cond b (e ∷ unbound h) (unbound h) ++ unbound k) [
        | true ↦ λ i. e ∷ append h k i
        | false ↦ append h k
      ]

pub learns-twice : (a b c : List Entry) → Learns a b → Learns b c → Learns a c
learns-twice a b c first next = record {
  more = first.more ++ next.more;
  is = next.is ∙ ap (λ (l : List Entry). l ++ next.more) first.is ∙ append_assoc a first.more next.more;
  results = results-both first.more next.more first.results next.results;
}

first-legal : (s : Setting) (a b : List Entry) → Learns a b → IsLegal (frame_in s) b → IsLegal (frame_in s) a
first-legal s a b learned legal = legal-first (frame_in s) a learned.more (subst (IsLegal (frame_in s)) learned.is legal)

first-made : (a b : List Entry) → Learns a b → AreMadeByTheirCallers b → AreMadeByTheirCallers a
first-made a b learned made = made-first a learned.more (subst AreMadeByTheirCallers learned.is made)

pub at-learned-twice : (s : Setting) (i : ℕ) (a b c : List Entry) (log : Log) (outs : List Out) (ins : List In) → IsAt s i a log outs ins → Learns a b → Learns b c → IsLegal (frame_in s) c → AreMadeByTheirCallers c → IsAt s i c log outs ins
at-learned-twice s i a b c log outs ins at first next legal made = at-learned s i a c log outs ins at (learns-twice a b c first next) legal made

-- few commands send few messages
pub sent-few : (s : Setting) (i : ℕ) (h : List Entry) (log : Log) (outs : List Out) (ins : List In) (st : Step) → IsWithinLimits s.script → IsStepAt s.script s.me i st → IsAt s i h log outs ins → log.sent < 2 ^ 32
sent-few s i h log outs ins st limits step at =
    let early : i < 100000 = (let inside = slice_get_within s.script.commands i step.command step.at in omega (arith, inside, limits.few)) in
    omega (arith, at.few, early)

-- ---- what was sent

-- a message is what the node sends also when results have come since it was made
pub message-told : (X : Frame) (h k : List Entry) (m : Message) → Learns h k → IsLegal X k → m ≡ message_at (graph X h) (peer_of X h) → m ≡ message_after X k (length k)
message-told X h k m learned legal is =
    let kept = kept-results X h learned.more (subst (IsLegal X) learned.is legal) learned.results in
    is
    ∙ (λ i. message_at (sym kept.graph_is i) (sym kept.peer i))
    ∙ ap (λ (l : List Entry). message_at (graph X l) (peer_of X l)) (sym learned.is ∙ sym (take_all (length k) k (omega arith)))

pub message-now : (X : Frame) (k : List Entry) → message_after X k (length k) ≡ message_at (graph X k) (peer_of X k)
message-now X k = ap (λ (l : List Entry). message_at (graph X l) (peer_of X l)) (take_all (length k) k (omega arith))

-- what a node sends is a letter
pub letter-made : (s : Setting) (i : ℕ) (a b c : List Entry) (log : Log) (outs : List Out) (ins : List In) (X : Frame) (m : Message) → X ≡ frame_in s → IsAt s i a log outs ins → Learns a b → Learns b c → IsLegal (frame_in s) c → AreMadeByTheirCallers c
    → m ≡ message_at (graph X b) (peer_of X b) → IsLetter s.graph s.script m
letter-made s i a b c log outs ins X m same at first next legal made is =
    let there : IsAt s i b log outs ins = at-learned s i a b log outs ins at first (first-legal s b c next legal) (first-made b c next made) in
    subst (IsLetter s.graph s.script) (sym (is ∙ (λ i. message_at (graph (same i) b) (peer_of (same i) b)))) (letter-sent s log.own.updates (total_in log.own) b there.hears.knows)

-- ---- what was looked at

-- a state that was looked at behind the settling of a node is at a threshold where what plain evaluation shows is
pub asked : (X : Frame) (t : Threshold) (x : ℕ) (h mid k : List Entry) (a : Arc State Global) → declared h ≡ [] → AreEvaluated X mid → Learns h mid → Learns mid k → IsLegal X k → x < length X.opening
    → held_of (arc_value a) ≡ state_after X k x → meets t (content_of (arc_value a)) ≡ meets t (shown_after X k (length k) x)
asked X t x h mid k a none are first next legal low held =
    ap (meets t) (ap (λ (e : Held). e.content) held ∙ settled-shown X mid k x are next legal (opened-var X h k x none (learns-twice h mid k first next) low))

-- and it is of its variable's shape
pub suited : (X : Frame) (t : Threshold) (x : ℕ) (h mid k : List Entry) (a : Arc State Global) → declared h ≡ [] → Learns h mid → Learns mid k → IsTrue (suits t (lawful.shape_of X.nodes (kind_at X.opening x)))
    → held_of (arc_value a) ≡ state_after X k x → IsTrue (suits t (shape_of (arc_value a)))
suited X t x h mid k a none first next suits_it held =
    let same : graph X k ≡ X.opening = opened X h k none (learns-twice h mid k first next) in
    subst (λ (e : Shape). IsTrue (suits t e)) (sym (ap (λ (e : Held). e.shape) held ∙ ap (λ (g : List Decl). lawful.shape_of X.nodes (kind_at g x)) same)) suits_it

-- ---- what is done

-- a print behind which the node's journal went on by results alone
pub done-printed : {E : Type 0} (r : Result (Unit {0}) E) (s : Setting) (i : ℕ) (X Y Z : Frame) (a b c k : List Entry) (log : Log) (outs : List Out) (ins : List In) (x : ℕ) (state : Arc State Global) (n : ℕ) (diary : Diary)
    → X ≡ frame_in s → Y ≡ frame_in s → Z ≡ frame_in s → IsAt s i a log outs ins → x < length s.graph → IsStepAt s.script s.me i (Does (Prints x)) → Learns a b → AreEvaluated X b → Learns b c → held_of (arc_value state) ≡ state_after Y c x
    → Learns c k → n ≡ length k → IsLegal Z k → AreMadeByTheirCallers k → OnOk r (diary.notes.items ≡ log.diary.notes.items ++ record { place = n; what = Print x state } ∷ []) → diary.failed ≡ log.diary.failed
    → HasDone s i r k (record log { diary = diary }) outs ins
done-printed (Ok done) s i X Y Z a b c k log outs ins x state n diary first second third at low step settled are looked held counted many allowed made noted failed =
    let legal : IsLegal (frame_in s) k = subst (λ (W : Frame). IsLegal W k) third allowed in
    let none : declared k ≡ [] = undeclared-learned a k at.hears.knows.undeclared (learns-twice a c k (learns-twice a b c settled looked) counted) in
    let told : IsTold (frame_in s) k (length k) (Print x state) =
    print-told (frame_in s) b c k x state (subst (λ (W : Frame). AreEvaluated W b) first are) looked counted legal none low (subst (λ (W : Frame). held_of (arc_value state) ≡ state_after W c x) second held) in
    at-printed s i k log x state diary outs ins (at-learned s i a k log outs ins at (learns-twice a c k (learns-twice a b c settled looked) counted) legal made) step told
    (noted ∙ ap (λ (m : ℕ). log.diary.notes.items ++ record { place = m; what = Print x state } ∷ []) many) failed
done-printed (Err why) s i X Y Z a b c k log outs ins x state n diary first second third at low step settled are looked held counted many allowed made noted failed = tt

-- a message that was put into the mailboxes, and noted
pub done-sent : {E : Type 0} (r : Result (Unit {0}) E) (s : Setting) (i : ℕ) (X Y : Frame) (a b k : List Entry) (log : Log) (outs rest : List Out) (ins : List In) (sent kept : Arc Message Global) (n many : ℕ) (diary : Diary)
    → X ≡ frame_in s → Y ≡ frame_in s → IsAt s i a log outs ins → IsStepAt s.script s.me i (Does Sends) → Learns a b → arc_value sent ≡ message_at (graph X b) (peer_of X b) → Learns b k → n ≡ length k → IsLegal Y k → AreMadeByTheirCallers k
    → arc_value kept ≡ arc_value sent → AreOfTheSame outs rest → HavePut s.me (Some (arc_value sent)) outs rest → many ≡ log.sent
    → OnOk r (diary.notes.items ≡ log.diary.notes.items ++ record { place = n; what = Send kept } ∷ []) → diary.failed ≡ log.diary.failed → HasDone s i r k (record log { diary = diary; sent = many + 1 }) rest ins
done-sent (Ok done) s i X Y a b k log outs rest ins sent kept n many diary first second at step told is counted place allowed made same of put count noted failed =
    let legal : IsLegal (frame_in s) k = subst (λ (W : Frame). IsLegal W k) second allowed in
    let message : arc_value sent ≡ message_after (frame_in s) k (length k) =
    message-told (frame_in s) b k (arc_value sent) counted legal (subst (λ (W : Frame). arc_value sent ≡ message_at (graph W b) (peer_of W b)) first is) in
    subst (λ (m : ℕ). IsAt s (i + 1) k (record log { diary = diary; sent = m + 1 }) rest ins) (sym count)
    (at-sent s i k log kept diary outs rest ins (at-learned s i a k log outs ins at (learns-twice a b k told counted) legal made) step (same ∙ message)
    (noted ∙ ap (λ (m : ℕ). log.diary.notes.items ++ record { place = m; what = Send kept } ∷ []) place) failed of (subst (λ (m : Message). HavePut s.me (Some m) outs rest) (sym same) put))
done-sent (Err why) s i X Y a b k log outs rest ins sent kept n many diary first second at step told is counted place allowed made same of put count noted failed = tt

-- a threshold that was waited for
pub has-passed : {E : Type 0} (r : Result Bool E) (s : Setting) (i x : ℕ) (until : Until) (k : List Entry) (log : Log) (outs : List Out) (ins : List In) → IsStepAt s.script s.me i (Waits (i + 1) x until) → HasWaited s i x until r k log outs ins → HasPassed s i r k log outs ins
has-passed (Ok true) s i x until k log outs ins step waited = waited
has-passed (Ok false) s i x until k log outs ins step waited = record { x = x; until = until; step = step; unmet = waited.1; at = waited.0; ended = waited.2 }
has-passed (Err why) s i x until k log outs ins step waited = tt
