-- What one node heard of another, when both were fed and the mailbox between them is closed.
use Rattle.std.proofs.Common.{◌≡◌, ℕ, List, [], ◌++◌, Some, sym, ap, ◌∙◌}
use Rattle.std.specs.Prelude.{◌≢◌, slice_get}
use mathlib.Core.List.{IsPrefix}
use Rattle.model_graph.specs.Graph.{Decl}
use Rattle.model_journal.specs.Entry.{Entry, Frame}
use Rattle.model_runs.specs.Calls.{frame_of, unbound}
use Rattle.model_world.specs.Command.{Script}
use Rattle.model_live.specs.Lived.{heard_of, numbered, first_number}
use Rattle.model_live.specs.Story.{letters}
use Rattle.model_live.proofs.HearLaws.{heard-kept}
use Rattle.model_live.proofs.StoryLaws.{letters-later}
use Rattle.lasp_live.specs.Diary.{notes_of, story_of}
use Rattle.lasp_live.specs.Ends.{Out, In}
use Rattle.lasp_live.specs.Fed.{HasFed}
use Rattle.lasp_live.specs.Steady.{setting}
use Rattle.lasp_live.specs.declared.diary.Diary.{Diary}
use Rattle.lasp_live.proofs.ClosedLaws.{closed-same}

-- node p heard of node q exactly what that sent, also in the journals when their stores are closed
pub heard-pair : (g : List Decl) (script : Script) (p q : ℕ) (seen more sent later : List Entry) (d e : Diary) (outs outs' : List Out) (ins ins' : List In)
    → HasFed (setting g script p) seen d outs ins → HasFed (setting g script q) sent e outs' ins'
    → (o : Out) (i : In) → slice_get outs' p ≡ Some o → slice_get ins q ≡ Some i → p ≢ q → IsPrefix i.got o.put → unbound more ≡ []
    → heard_of q (seen ++ more) ≡ numbered (first_number q) (letters (frame_of g script.nodes q) (story_of (sent ++ later) e))
heard-pair g script p q seen more sent later d e outs outs' ins ins' fed other o i at-out at-in apart begins results =
    let got = fed.got q i at-in (λ same. apart (sym same)) in
    let put = other.put p o at-out apart in
    let X : Frame = frame_of g script.nodes q in
    heard-kept q seen more results
    ∙ got.2
    ∙ ap (numbered (first_number q)) (closed-same i.got o.put got.0 (letters X (story_of sent e)) begins put got.1 ∙ sym (letters-later X sent later (notes_of e) other.story.placed))
