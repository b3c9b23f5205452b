use Rattle.std.proofs.Common.{rules, ◌≡◌, ◌+◌, ℕ, List, get_or, true, false, sym, ap, subst, ◌∙◌, arith}
use Rattle.std.specs.Prelude.{None, slice_set}
use Rattle.std.specs.Arc.{arc_value}
use Rattle.std.proofs.lemmas.List.{get_or_read}
use Rattle.model_graph.specs.Graph.{Decl}
use Rattle.model_journal.specs.Entry.{Frame}
use Rattle.model_journal.specs.Legal.{IsLegal}
use Rattle.model_runs.specs.Calls.{frame_of}
use Rattle.model_live.specs.Knows.{Knows}
use Rattle.model_live.specs.Letter.{IsNews}
use Rattle.model_live.specs.Lived.{first_number}
use Rattle.model_live.specs.Together.{too_large}
use Rattle.lasp_live.specs.Fed.{Setting, has_ended, Hears}
use Rattle.lasp_live.specs.Mail.{message_in, plan_of}
use Rattle.lasp_live.specs.Own.{total_in}
use Rattle.lasp_live.specs.Sealed.{Plan}
use Rattle.lasp_live.specs.Steady.{setting}
use Rattle.lasp_live.proofs.TakeLaws.{may-taken, more-letter, plan-taken, takes-end, takes-letter}
use Rattle.lasp_live.proofs.takes.take_one.Goals as goal

pub take_from-requires-clause-few : goal.take_from-requires-clause-few
take_from-requires-clause-few g c = omega (arith, c.requires.may.many.1, c.requires.may.limits.nodes)

-- the letter is of the run's graph and script
pub deliver-requires-clause-frame : goal.deliver-requires-clause-frame
deliver-requires-clause-frame g c =
    let s : Setting = setting (arc_value c.args.graph.now) (arc_value c.args.script.now) c.args.me in
    let plan = ap plan_of c.in-Letter.is in
    let same = sym (plan-taken s c.args.boxes.now c.args.ins.now.items c.take_from.new.ins.items c.args.q c.in-Some.item c.requires.may c.in-Some.ensures.some) ∙ plan in
    c.requires.frame ∙ ap (λ (p : Plan). frame_of p.0 p.1.nodes c.args.me) same

pub deliver-requires-clause-small : goal.deliver-requires-clause-small
deliver-requires-clause-small g c =
    let s : Setting = setting (arc_value c.args.graph.now) (arc_value c.args.script.now) c.args.me in
    let plan = ap plan_of c.in-Letter.is in
    let same = sym (plan-taken s c.args.boxes.now c.args.ins.now.items c.take_from.new.ins.items c.args.q c.in-Some.item c.requires.may c.in-Some.ensures.some) ∙ plan in
    subst (λ (p : Plan). too_large p.0 p.1 ≡ None) same c.requires.may.small

pub deliver-requires-clause-knows : goal.deliver-requires-clause-knows
deliver-requires-clause-knows g c =
    let s : Setting = setting (arc_value c.args.graph.now) (arc_value c.args.script.now) c.args.me in
    let plan = ap plan_of c.in-Letter.is in
    let same = sym (plan-taken s c.args.boxes.now c.args.ins.now.items c.take_from.new.ins.items c.args.q c.in-Some.item c.requires.may c.in-Some.ensures.some) ∙ plan in
    subst (λ (p : Plan). Knows p.0 p.1 c.args.me c.args.own.now.updates (total_in c.args.own.now) (g.F.Feeder.seen c.args.f.now)) same c.requires.hears.knows

pub returns-in-Letter-clause-hears : goal.returns-in-Letter-clause-hears
returns-in-Letter-clause-hears g c =
    let s : Setting = setting (arc_value c.args.graph.now) (arc_value c.args.script.now) c.args.me in
    let own = c.args.own.now in
    let ended = c.args.ended.now.items in
    let l = c.in-Letter.letter in
    let q : c.from.result ≡ c.args.q = omega (arith, c.from.ensures) in
    let there : c.index.result.now ≡ get_or ended c.from.result c.index.result.now = search rules in
    let more : has_ended ended c.args.q ≡ false =
    ap (has_ended ended) (sym q) ∙ sym (get_or_read ended c.from.result c.index.result.now (omega (arith, q, c.requires.sender, c.requires.hears.many)) there true) ∙ c.if-index.false in
    let came = c.in_ok-deliver-in-Letter.ensures.delivered in
    let news : IsNews s.graph s.me own.updates (total_in own) l.0 =
    subst (λ (h : List Decl). IsNews h s.me own.updates (total_in own) l.0) c.deref.ensures (subst (λ (X : Frame). IsNews c.deref.result.now X.replica own.updates (total_in own) l.0) c.requires.frame came.1) in
    let legal = subst (λ (X : Frame). IsLegal X (g.F.Feeder.seen c.deliver.new.f)) (c.deliver.ensures.frame ∙ c.requires.frame) c.in_ok-deliver-in-Letter.ensures.legal in
    takes-letter s c.args.boxes.now (g.F.Feeder.seen c.args.f.now) (g.F.Feeder.seen c.deliver.new.f) came.2.0 own ended c.args.ins.now.items c.take_from.new.ins.items c.args.q c.in-Some.item l c.requires.may c.requires.hears
    c.requires.sender more c.in-Some.ensures.some (ap plan_of c.in-Letter.is) (ap message_in c.in-Letter.is) c.deliver.ensures.letter came.0 news came.2.1 legal c.in_ok-deliver-in-Letter.ensures.made

pub returns-in-Letter-clause-more : goal.returns-in-Letter-clause-more
returns-in-Letter-clause-more g c =
    let came = c.in_ok-deliver-in-Letter.ensures.delivered in
    more-letter (g.F.Feeder.seen c.args.f.now) (g.F.Feeder.seen c.deliver.new.f) came.2.0 (first_number c.args.q + c.in-Some.item.number) c.in-Letter.letter.0 came.2.1

pub returns-in-Letter-clause-may : goal.returns-in-Letter-clause-may
returns-in-Letter-clause-may g c =
    may-taken (setting (arc_value c.args.graph.now) (arc_value c.args.script.now) c.args.me) c.args.boxes.now c.args.ins.now.items c.take_from.new.ins.items c.args.q c.in-Some.item c.requires.may c.in-Some.ensures.some

pub returns-clause-may : goal.returns-clause-may
returns-clause-may g c =
    may-taken (setting (arc_value c.args.graph.now) (arc_value c.args.script.now) c.args.me) c.args.boxes.now c.args.ins.now.items c.take_from.new.ins.items c.args.q c.in-Some.item c.requires.may c.in-Some.ensures.some

pub returns-clause-hears : goal.returns-clause-hears
returns-clause-hears g c =
    let s : Setting = setting (arc_value c.args.graph.now) (arc_value c.args.script.now) c.args.me in
    let own = c.args.own.now in
    let ended = c.args.ended.now.items in
    let q : c.from.result ≡ c.args.q = omega (arith, c.from.ensures) in
    let there : c.index.result.now ≡ get_or ended c.from.result c.index.result.now = search rules in
    let more : has_ended ended c.args.q ≡ false =
    ap (has_ended ended) (sym q) ∙ sym (get_or_read ended c.from.result c.index.result.now (omega (arith, q, c.requires.sender, c.requires.hears.many)) there true) ∙ c.if-index.false in
    let here : c.from-in-End.result ≡ c.args.q = omega (arith, c.from-in-End.ensures) in
    subst (λ (k : ℕ). Hears s (g.F.Feeder.seen c.args.f.now) own (slice_set ended k true) c.take_from.new.ins.items) (sym here)
    (takes-end s (g.F.Feeder.seen c.args.f.now) own ended c.args.ins.now.items c.take_from.new.ins.items c.args.q c.in-Some.item c.requires.hears c.requires.sender more c.in-Some.ensures.some (ap message_in c.in-End.is))
