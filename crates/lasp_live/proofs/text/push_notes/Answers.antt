use Rattle.std.proofs.Common.{◌≡◌, ℕ, zero, suc, List, [], ◌∷◌, length, string_bytes, sym, ap, subst, ◌∙◌, arith}
use Rattle.std.specs.Prelude.{Some, slice_get}
use Rattle.std.proofs.lemmas.Option.{same_Some}
use Rattle.model_journal.specs.Entry.{Entry, Frame}
use Rattle.lasp_drive.proofs.NodeLaws.{mapped-at}
use Rattle.lasp_live.specs.Diary.{AreTold, IsTold, note_of, notes_of}
use Rattle.lasp_live.specs.declared.diary.Note.{Note}
use Rattle.lasp_live.proofs.TextLaws.{telling-next, telling-stops}
use Rattle.lasp_live.proofs.text.push_notes.Goals as goal

-- what is told of all notes is told of each
told-at : (X : Frame) (entries : List Entry) (notes : List Note) (n : ℕ) (note : Note) → AreTold X entries notes → slice_get notes n ≡ Some note → IsTold X entries note.place note.what
told-at X entries [] n note told at = absurd cc
told-at X entries (m ∷ notes) zero note told at = subst (λ (k : Note). IsTold X entries k.place k.what) (same_Some m note at) told.0
told-at X entries (m ∷ notes) (suc n) note told at = told-at X entries notes n note told.1 at

pub push_note-requires-clause-told : goal.push_note-requires-clause-told
push_note-requires-clause-told c = told-at c.args.core.now.frame c.args.core.now.entries c.args.diary.now.notes.items c.loop-n.n c.at-in-loop-n.result.now c.requires.told c.at-in-loop-n.ensures

pub loop-n-preserved : goal.loop-n-preserved
loop-n-preserved c =
    let same : c.at-in-loop-n.result.now ≡ c.at.result.now = same_Some c.at-in-loop-n.result.now c.at.result.now (sym c.at-in-loop-n.ensures ∙ c.at.ensures) in
    telling-next c.args.graph.now c.args.core.now.frame c.args.core.now.entries c.args.p c.args.place (length c.args.core.now.entries) (notes_of c.args.diary.now) (string_bytes c.args.text.now) c.loop-n.n (note_of c.at-in-loop-n.result.now)
    (string_bytes c.loop-n.text) (string_bytes c.push_note.new.text) c.loop-n.invariant (mapped-at note_of c.args.diary.now.notes.items c.loop-n.n c.at-in-loop-n.result.now c.at-in-loop-n.ensures)
    (omega (arith, c.if-at-place.true, ap (λ (n : Note). n.place) same)) c.in_ok-push_note.ensures

pub returns-else-at-place-clause-left : goal.returns-else-at-place-clause-left
returns-else-at-place-clause-left c =
    (telling-stops c.args.graph.now c.args.core.now.frame c.args.core.now.entries c.args.p c.args.place (length c.args.core.now.entries) (notes_of c.args.diary.now) (string_bytes c.args.text.now) c.loop-n.n (note_of c.at.result.now)
    (string_bytes c.loop-n.text) c.loop-n.invariant (mapped-at note_of c.args.diary.now.notes.items c.loop-n.n c.at.result.now c.at.ensures) (λ here. omega (arith, here, c.if-at-place.false))).0

pub returns-else-at-place-clause-lines : goal.returns-else-at-place-clause-lines
returns-else-at-place-clause-lines c =
    (telling-stops c.args.graph.now c.args.core.now.frame c.args.core.now.entries c.args.p c.args.place (length c.args.core.now.entries) (notes_of c.args.diary.now) (string_bytes c.args.text.now) c.loop-n.n (note_of c.at.result.now)
    (string_bytes c.loop-n.text) c.loop-n.invariant (mapped-at note_of c.args.diary.now.notes.items c.loop-n.n c.at.result.now c.at.ensures) (λ here. omega (arith, here, c.if-at-place.false))).1
