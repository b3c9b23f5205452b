use Rattle.std.proofs.Common.{ℕ, ◌≡◌, ◌<◌, ◌++◌, List, length, sym, ap, subst, ◌∙◌, arith}
use Rattle.std.specs.Prelude.{string_bytes}
use Rattle.model_core.specs.Trace.{NamesDeclared}
use Rattle.model_graph.specs.Graph.{Decl}
use Rattle.model_journal.specs.Entry.{Frame}
use Rattle.model_live.specs.Lived.{lines_from, note_lines}
use Rattle.model_live.specs.Story.{notes_at}
use Rattle.model_live.proofs.HearLaws.{graph-opens}
use Rattle.lasp_replica.specs.Entries.{act_of, entry_of}
use Rattle.lasp_live.specs.Diary.{AreTold, notes_of, story_of}
use Rattle.lasp_live.specs.Texts.{AreLeft}
use Rattle.lasp_live.proofs.TextLaws.{counted-most, story-begins, story-ends, story-next}
use Rattle.lasp_live.proofs.text.push_story.Goals as goal

pub loop-i-init : goal.loop-i-init
loop-i-init c = story-begins c.args.graph.now c.args.core.now.frame c.args.p (story_of c.args.core.now.entries c.args.diary.now) (string_bytes c.args.text.now) c.requires.placed

pub push_notes-requires-clause-opening : goal.push_notes-requires-clause-opening
push_notes-requires-clause-opening c = ap (λ (X : Frame). X.opening) c.requires.frame

pub push_notes-requires-clause-told : goal.push_notes-requires-clause-told
push_notes-requires-clause-told c = subst (λ (X : Frame). AreTold X c.args.core.now.entries c.args.diary.now.notes.items) (sym c.requires.frame) c.requires.told

pub push_notes-requires-clause-left : goal.push_notes-requires-clause-left
push_notes-requires-clause-left c = c.loop-i.invariant.left

pub push_entry-requires : goal.push_entry-requires
push_entry-requires c =
    let core = c.args.core.now in
    let low : c.loop-i.i < length core.entries = omega (arith, c.loop-i-test.true, c.journal_len-i-end.ensures.length) in
    subst (λ (g : List Decl). NamesDeclared g (act_of c.entry_at-entry.result.now.what)) (graph-opens core.frame core.entries c.requires.undeclared ∙ ap (λ (X : Frame). X.opening) c.requires.frame)
    (c.journals_name_declared_variables.ensures core.frame core.entries c.loop-i.i (entry_of c.entry_at-entry.result.now) c.recall.ensures.core.legal low c.entry_at-entry.ensures.entry)

pub loop-i-preserved : goal.loop-i-preserved
loop-i-preserved c =
    let core = c.args.core.now in
    let entry = entry_of c.entry_at-entry.result.now in
    story-next c.args.graph.now core.frame c.args.p (story_of core.entries c.args.diary.now) (string_bytes c.args.text.now) c.loop-i.i c.loop-i.updates c.updates_with-updates.result c.loop-i.next c.in_ok-next.next entry
    (string_bytes c.loop-i.text) (string_bytes c.push_notes.new.text) (string_bytes c.push_entry.new.text) c.loop-i.invariant c.entry_at-entry.ensures.entry c.in_ok-next.ensures.left c.in_ok-next.ensures.lines
    c.updates_with-updates.ensures c.in_ok-push_entry.ensures (omega (arith, counted-most c.loop-i.updates entry.act, c.updates_with-updates.ensures, c.loop-i.invariant.few))

pub push_notes-requires-2-clause-opening : goal.push_notes-requires-2-clause-opening
push_notes-requires-2-clause-opening c = ap (λ (X : Frame). X.opening) c.requires.frame

pub push_notes-requires-2-clause-told : goal.push_notes-requires-2-clause-told
push_notes-requires-2-clause-told c = subst (λ (X : Frame). AreTold X c.args.core.now.entries c.args.diary.now.notes.items) (sym c.requires.frame) c.requires.told

pub push_notes-requires-2-clause-left : goal.push_notes-requires-2-clause-left
push_notes-requires-2-clause-left c =
    let end : c.loop-i.i ≡ c.journal_len.result = omega (arith, c.loop-i-test.false, c.loop-i.auto.i-end, c.journal_len-i-end.ensures.length, c.journal_len.ensures.length) in
    subst (λ (n : ℕ). AreLeft n (length c.args.core.now.entries) c.loop-i.next (notes_of c.args.diary.now)) end c.loop-i.invariant.left

pub returns : goal.returns
returns c =
    let g = c.args.graph.now in
    let core = c.args.core.now in
    let s = story_of core.entries c.args.diary.now in
    let end : c.journal_len.result ≡ c.loop-i.i = omega (arith, c.loop-i-test.false, c.loop-i.auto.i-end, c.journal_len-i-end.ensures.length, c.journal_len.ensures.length) in
    let noted : string_bytes c.push_notes-2.new.text ≡ string_bytes c.loop-i.text ++ note_lines g core.frame core.entries c.args.p (notes_at c.loop-i.i s.notes) =
    subst (λ (n : ℕ). string_bytes c.push_notes-2.new.text ≡ string_bytes c.loop-i.text ++ note_lines g core.frame core.entries c.args.p (notes_at n s.notes)) end c.in_ok-push_notes.ensures.lines in
    subst (λ (X : Frame). string_bytes c.push_notes-2.new.text ≡ string_bytes c.args.text.now ++ lines_from g X c.args.p s 0 0 core.entries) c.requires.frame
    (story-ends g core.frame c.args.p s (string_bytes c.args.text.now) c.loop-i.i c.loop-i.updates c.loop-i.next (string_bytes c.loop-i.text) (string_bytes c.push_notes-2.new.text) c.loop-i.invariant
    (omega (arith, c.loop-i-test.false, c.journal_len-i-end.ensures.length)) noted)
