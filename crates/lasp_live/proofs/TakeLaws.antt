-- What a journal tells of the mailboxes, item by item.
use Rattle.std.proofs.Common.{◌≡◌, ℕ, ◌+◌, ◌*◌, ◌<◌, Bool, true, false, List, [], ◌∷◌, ◌++◌, length, Option, Some, None, refl, sym, ap, subst, ◌∙◌, append-nil, append_assoc, arith}
use Rattle.std.specs.Prelude.{◌≢◌, slice_get, slice_set}
use Rattle.std.proofs.lemmas.Option.{same_Some}
use Rattle.std.proofs.lemmas.List.{length-map, map-append, get_or-set_same, get_or-set_other}
use Rattle.model_graph.proofs.PlaceLaws.{set-length}
use Rattle.model_journal.specs.Callers.{AreMadeByTheirCallers}
use Rattle.model_journal.specs.Entry.{Deliver, Entry}
use Rattle.model_journal.specs.Legal.{IsLegal}
use Rattle.model_journal.proofs.LegalLaws.{legal-first}
use Rattle.model_graph.specs.Message.{Message}
use Rattle.model_runs.specs.Calls.{fed, unbound}
use Rattle.model_live.specs.Knows.{Knows}
use Rattle.model_live.specs.Letter.{IsLetter, IsNews}
use Rattle.model_live.specs.Lived.{numbers_of_one, first_number, heard_of, numbered}
use Rattle.model_live.proofs.EndLaws.{result-of}
use Rattle.model_live.proofs.HearLaws.{heard-kept}
use Rattle.model_live.proofs.KnowLaws.{heard-next, heard-apart, knows-results, knows-letter}
use Rattle.model_live.proofs.NumberLaws.{numbered-next}
use Rattle.lasp_drive.proofs.NodeLaws.{at-set}
use Rattle.lasp_mail.specs.declared.item.Item.{Item}
use Rattle.lasp_live.specs.Ends.{Box, In, IsUntaken}
use Rattle.lasp_live.specs.Fed.{Setting, frame_in, has_ended, HasHeard, Hears, IsHearing, AreHearings, HearsMore}
use Rattle.lasp_live.specs.Mail.{mails, message_in, plan_of, letters_so_far}
use Rattle.lasp_live.specs.Own.{total_in}
use Rattle.lasp_live.specs.Sealed.{Plan, Sealed, IsSealed}
use Rattle.lasp_live.specs.Steady.{MayHear}
use Rattle.lasp_live.specs.Taken.{taken, IsTakenFrom}
use Rattle.lasp_live.specs.Turns.{Feeds, Learns}
use Rattle.lasp_live.specs.declared.mail.Mail.{Mail}
use Rattle.lasp_live.specs.declared.own.Own.{Own}

-- what was learned from nothing
pub learns-nothing : (h : List Entry) → Learns h h
learns-nothing h = record { more = []; is = sym (append-nil h); results = refl }

pub made-first : (h more : List Entry) → AreMadeByTheirCallers (h ++ more) → AreMadeByTheirCallers h
made-first [] more made = tt
made-first (e ∷ h) more made = (made.0, made-first h more made.1)

-- ---- results

heard-learned : (s : Setting) (old new : List Entry) (q : ℕ) (e : In) (ended : Bool) → Learns old new → HasHeard old q e ended → HasHeard new q e ended
heard-learned s old new q e ended learned heard = record {
  messages = heard.messages;
  got = heard.got;
  heard = ap (heard_of q) learned.is ∙ heard-kept q old learned.more learned.results ∙ heard.heard;
}

pub hears-learned : (s : Setting) (old new : List Entry) (own : Own) (ended : List Bool) (ins : List In) → Hears s old own ended ins → Learns old new → IsLegal (frame_in s) new → AreMadeByTheirCallers new → Hears s new own ended ins
hears-learned s old new own ended ins h learned legal made = record {
  knows = subst (Knows s.graph s.script s.me own.updates (total_in own)) (sym learned.is)
      (knows-results s.graph s.script s.me own.updates (total_in own) old learned.more h.knows (subst (IsLegal (frame_in s)) learned.is legal) (subst AreMadeByTheirCallers learned.is made) learned.results);
  many = h.many;
  itself = h.itself;
  heard = λ q e at other. heard-learned s old new q e (has_ended ended q) learned (h.heard q e at other);
  untaken = h.untaken;
}

-- ---- a letter

mails-next : (items : List (Item Mail)) (item : Item Mail) → mails (items ++ item ∷ []) ≡ mails items ++ message_in item.body ∷ []
mails-next items item = map-append (λ (i : Item Mail). message_in i.body) items (item ∷ [])

pub so-far-next : (ms : List Message) (m : Message) → letters_so_far (ms ++ m ∷ []) ≡ letters_so_far ms ++ Some m ∷ []
so-far-next ms m = map-append (λ (k : Message). Some k) ms (m ∷ [])

pub many-heard : (items : List (Item Mail)) (ms : List Message) → mails items ≡ letters_so_far ms → length items ≡ length ms
many-heard items ms e = sym (length-map items (λ (i : Item Mail). message_in i.body)) ∙ ap (λ (l : List (Option Message)). length l) e ∙ length-map ms (λ (k : Message). Some k)

heard-letter : (old new : List Entry) (q : ℕ) (i : In) (item : Item Mail) (m : Message) (found : List Entry) → Feeds (Deliver (first_number q + item.number) m) found old new → item.number < numbers_of_one → item.number ≡ length i.got → message_in item.body ≡ Some m
    → HasHeard old q i false → HasHeard new q (taken i item) false
heard-letter old new q i item m found feeds low number is heard =
    let ms : List Message = heard.messages in
    let many : item.number ≡ length ms = number ∙ many-heard i.got ms heard.got in
    let before : heard_of q found ≡ numbered (first_number q) ms = ap (heard_of q) feeds.learned.is ∙ heard-kept q old feeds.learned.more feeds.learned.results ∙ heard.heard in
    record {
      messages = ms ++ m ∷ [];
      got = mails-next i.got item ∙ ap (λ (l : List (Option Message)). l ++ message_in item.body ∷ []) heard.got ∙ ap (λ (o : Option Message). letters_so_far ms ++ o ∷ []) is ∙ sym (so-far-next ms m);
      heard = ap (heard_of q) feeds.is ∙ heard-next found q item.number m low ∙ ap (λ (l : List (ℕ × Message)). l ++ (first_number q + item.number, m) ∷ []) before
          ∙ ap (λ (n : ℕ). numbered (first_number q) ms ++ (first_number q + n, m) ∷ []) many ∙ sym (numbered-next (first_number q) ms m);
    }

heard-other : (old new : List Entry) (q r k : ℕ) (e : In) (ended : Bool) (m : Message) (found : List Entry) → Feeds (Deliver (first_number q + k) m) found old new → k < numbers_of_one → r ≢ q → HasHeard old r e ended → HasHeard new r e ended
heard-other old new q r k e ended m found feeds low other heard = record {
  messages = heard.messages;
  got = heard.got;
  heard = ap (heard_of r) feeds.is ∙ heard-apart found q r k m low other ∙ ap (heard_of r) feeds.learned.is ∙ heard-kept r old feeds.learned.more feeds.learned.results ∙ heard.heard;
}

-- nothing more comes of the node itself
never-itself : (s : Setting) (old : List Entry) (own : Own) (ended : List Bool) (ins : List In) (q : ℕ) → Hears s old own ended ins → has_ended ended q ≡ false → q ≢ s.me
never-itself s old own ended ins q h more e = let both : true ≡ false = sym h.itself ∙ ap (has_ended ended) (sym e) ∙ more in cc

-- what is taken of another is not the node's own
untaken-still : (ins : List In) (me q : ℕ) (after : In) → q ≢ me → IsUntaken ins me → IsUntaken (slice_set ins q after) me
untaken-still ins me q after other none i there =
    at-set (λ r e. r ≡ me → e.got ≡ []) ins q after (λ r e apart was is. none e (ap (slice_get ins) (sym is) ∙ was)) (λ is. absurd (other is)) me i there refl

pub hears-letter : (s : Setting) (old new : List Entry) (own : Own) (ended : List Bool) (ins : List In) (q : ℕ) (i : In) (item : Item Mail) (m : Message) (found : List Entry) → Hears s old own ended ins
    → slice_get ins q ≡ Some i → q < s.script.nodes → has_ended ended q ≡ false → item.number ≡ length i.got → message_in item.body ≡ Some m
    → IsLetter s.graph s.script m → IsNews s.graph s.me own.updates (total_in own) m → item.number < numbers_of_one → Feeds (Deliver (first_number q + item.number) m) found old new
    → IsLegal (frame_in s) new → AreMadeByTheirCallers new → Hears s new own ended (slice_set ins q (taken i item))
hears-letter s old new own ended ins q i item m found h at member more number is letter news low feeds legal made =
    let other : q ≢ s.me = never-itself s old own ended ins q h more in
    let e : Entry = fed (Deliver (first_number q + item.number) m) in
    let whole : IsLegal (frame_in s) (found ++ e ∷ []) = subst (IsLegal (frame_in s)) feeds.is legal in
    let callers : AreMadeByTheirCallers (found ++ e ∷ []) = subst AreMadeByTheirCallers feeds.is made in
    let before : Hears s found own ended ins = hears-learned s old found own ended ins h feeds.learned (legal-first (frame_in s) found (e ∷ []) whole) (made-first found (e ∷ []) callers) in
    record {
      knows = subst (Knows s.graph s.script s.me own.updates (total_in own)) (sym feeds.is)
          (knows-letter s.graph s.script s.me own.updates (total_in own) found q item.number m before.knows letter news member other low whole callers);
      many = h.many;
      itself = h.itself;
      heard = at-set (λ r e. r ≢ s.me → HasHeard new r e (has_ended ended r)) ins q (taken i item)
          (λ r e apart there away. heard-other old new q r item.number e (has_ended ended r) m found feeds low apart (h.heard r e there away))
          (λ away. subst (HasHeard new q (taken i item)) (sym more) (heard-letter old new q i item m found feeds low number is (subst (HasHeard old q i) more (h.heard q i at away))));
      untaken = untaken-still ins s.me q (taken i item) other h.untaken;
    }

-- ---- the end of a sender

heard-end : (old : List Entry) (q : ℕ) (i : In) (item : Item Mail) → message_in item.body ≡ None → HasHeard old q i false → HasHeard old q (taken i item) true
heard-end old q i item is heard = record {
  messages = heard.messages;
  got = mails-next i.got item ∙ ap (λ (l : List (Option Message)). l ++ message_in item.body ∷ []) heard.got ∙ ap (λ (o : Option Message). letters_so_far heard.messages ++ o ∷ []) is;
  heard = heard.heard;
}

pub hears-end : (s : Setting) (old : List Entry) (own : Own) (ended : List Bool) (ins : List In) (q : ℕ) (i : In) (item : Item Mail) → Hears s old own ended ins
    → slice_get ins q ≡ Some i → q < s.script.nodes → has_ended ended q ≡ false → message_in item.body ≡ None → Hears s old own (slice_set ended q true) (slice_set ins q (taken i item))
hears-end s old own ended ins q i item h at member more is =
    let other : q ≢ s.me = never-itself s old own ended ins q h more in
    let low : q < length ended = omega (arith, member, h.many) in
    record {
      knows = h.knows;
      many = set-length ended q true ∙ h.many;
      itself = get_or-set_other ended q s.me true true (λ e. other (sym e)) ∙ h.itself;
      heard = at-set (λ r e. r ≢ s.me → HasHeard old r e (has_ended (slice_set ended q true) r)) ins q (taken i item)
          (λ r e apart there away. subst (HasHeard old r e) (sym (get_or-set_other ended q r true true apart)) (h.heard r e there away))
          (λ away. subst (HasHeard old q (taken i item)) (sym (get_or-set_same ended q true true low)) (heard-end old q i item is (subst (HasHeard old q i) more (h.heard q i at away))));
      untaken = untaken-still ins s.me q (taken i item) other h.untaken;
    }

-- ---- messages and results alone

results-hearings : (more : List Entry) → unbound more ≡ [] → AreHearings more
results-hearings [] results = tt
results-hearings (e ∷ more) results = let b = result-of e more results in (subst IsHearing (sym b.2) tt, results-hearings more b.3)

hearings-append : (a b : List Entry) → AreHearings a → AreHearings b → AreHearings (a ++ b)
hearings-append [] b h k = k
hearings-append (e ∷ a) b h k = (h.0, hearings-append a b h.1 k)

pub more-learned : (old new : List Entry) → Learns old new → HearsMore old new
more-learned old new learned = record { more = learned.more; is = learned.is; hearings = results-hearings learned.more learned.results }

pub more-chain : (a b c : List Entry) → HearsMore a b → HearsMore b c → HearsMore a c
more-chain a b c first next = record {
  more = first.more ++ next.more;
  is = next.is ∙ ap (λ (l : List Entry). l ++ next.more) first.is ∙ append_assoc a first.more next.more;
  hearings = hearings-append first.more next.more first.hearings next.hearings;
}

pub more-letter : (old new found : List Entry) (i : ℕ) (m : Message) → Feeds (Deliver i m) found old new → HearsMore old new
more-letter old new found i m feeds = more-chain old found new (more-learned old found feeds.learned) (record { more = fed (Deliver i m) ∷ []; is = feeds.is; hearings = (tt, tt) })

-- ---- the mailboxes

pub may-taken : (s : Setting) (boxes : List Box) (old new : List In) (q : ℕ) (item : Item Mail) → MayHear s boxes old → IsTakenFrom q item old new → MayHear s boxes new
may-taken s boxes old new q item may took = subst (MayHear s boxes) (sym took.is) (record {
  graph = may.graph;
  lawful = may.lawful;
  limits = may.limits;
  small = may.small;
  member = may.member;
  many = (may.many.0, set-length old q (taken took.inlet item) ∙ may.many.1);
  planned = may.planned;
  ins_of = at-set (λ r e. slice_get boxes (r * s.script.nodes + s.me) ≡ Some e.of) old q (taken took.inlet item) (λ r e other there. may.ins_of r e there) (may.ins_of q took.inlet took.at);
})

-- what was taken is of the run's graph and script
pub plan-taken : (s : Setting) (boxes : List Box) (old new : List In) (q : ℕ) (item : Item Mail) → MayHear s boxes old → IsTakenFrom q item old new → plan_of item.body ≡ (s.graph, s.script)
plan-taken s boxes old new q item may took =
    same_Some (plan_of item.body) (s.graph, s.script) (took.planned ∙ may.planned (q * s.script.nodes + s.me) took.inlet.of (may.ins_of q took.inlet took.at))

pub takes-letter : (s : Setting) (boxes : List Box) (old new found : List Entry) (own : Own) (ended : List Bool) (ins rest : List In) (q : ℕ) (item : Item Mail) (l : Sealed) → MayHear s boxes ins → Hears s old own ended ins
    → q < s.script.nodes → has_ended ended q ≡ false → IsTakenFrom q item ins rest → plan_of item.body ≡ l.1 → message_in item.body ≡ Some l.0 → IsSealed l
    → item.number < numbers_of_one → IsNews s.graph s.me own.updates (total_in own) l.0 → Feeds (Deliver (first_number q + item.number) l.0) found old new
    → IsLegal (frame_in s) new → AreMadeByTheirCallers new → Hears s new own ended rest
takes-letter s boxes old new found own ended ins rest q item l may h member more took planned is sealed low news feeds legal made =
    let same : l.1 ≡ (s.graph, s.script) = sym planned ∙ plan-taken s boxes ins rest q item may took in
    let letter : IsLetter s.graph s.script l.0 = subst (λ (p : Plan). IsLetter p.0 p.1 l.0) same sealed in
    subst (Hears s new own ended) (sym took.is) (hears-letter s old new own ended ins q took.inlet item l.0 found h took.at member more took.number is letter news low feeds legal made)

pub takes-end : (s : Setting) (old : List Entry) (own : Own) (ended : List Bool) (ins rest : List In) (q : ℕ) (item : Item Mail) → Hears s old own ended ins
    → q < s.script.nodes → has_ended ended q ≡ false → IsTakenFrom q item ins rest → message_in item.body ≡ None → Hears s old own (slice_set ended q true) rest
takes-end s old own ended ins rest q item h member more took is =
    subst (Hears s old own (slice_set ended q true)) (sym took.is) (hears-end s old own ended ins q took.inlet item h took.at member more is)

pub ruleset takings = (learns-nothing, hears-learned, takes-letter, takes-end, may-taken, more-learned, more-letter, more-chain)

pub ruleset learnings = (learns-nothing, more-learned)
