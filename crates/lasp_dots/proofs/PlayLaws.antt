-- A script goes on command by command.
use Rattle.std.proofs.Common.{◌≡◌, ℕ, ◌+◌, ◌≤◌, List, [], ◌∷◌, ◌++◌, length, drop, refl, sym, ap, subst, ◌∙◌, arith}
use Rattle.std.specs.Prelude.{Bool, true, false, if◌then◌else◌, Some, None, slice_get}
use Rattle.std.proofs.lemmas.List.{drop_all, append_assoc, append-nil}
use Rattle.model_values.proofs.ListLaws.{drop-at}
use Rattle.model_graph.proofs.PlaceLaws.{set-length, length-push}
use Rattle.model_world.specs.Command as command
use Rattle.model_world.specs.Command.{Command}
use Rattle.model_world.specs.Lawful.{Stage, stage_after, AreLawful}
use Rattle.model_world.specs.World.{Act, Post, Take, sync_acts}
use Rattle.model_world.proofs.RoundLaws.{AreCalm, calm-sync, posts, posts-sync}
use Rattle.model_dots.specs.Dots.{join_dots}
use Rattle.model_dots.specs.DotReport.{dot_print, dot_text}
use Rattle.model_dots.specs.DotWorld.{DotWorld, dots_at, IsDotCommand, dot_acts, dot_act, dot_each, dot_play}
use Rattle.model_dots.specs.Words.{is_dot_command, first_other}
use Rattle.lasp_dots.specs.Commands.{stage_at}

-- ---- what stands behind a command

calm-sent : (w : DotWorld) (acts : List Act) → AreCalm acts → length (dot_each w acts).sent ≡ length w.sent + posts acts
calm-sent w [] h = omega arith
calm-sent w (Post p ∷ rest) h = omega (arith, calm-sent (dot_act w (Post p)) rest h.1, length-push w.sent (dots_at w.nodes p))
calm-sent w (Take p i ∷ rest) h = omega (arith, calm-sent (dot_act w (Take p i)) rest h.1)
calm-sent w (a ∷ rest) h = absurd h.0

calm-size : (w : DotWorld) (acts : List Act) → AreCalm acts → length (dot_each w acts).nodes ≡ length w.nodes
calm-size w [] h = refl
calm-size w (Post p ∷ rest) h = calm-size (dot_act w (Post p)) rest h.1
calm-size w (Take p i ∷ rest) h = calm-size (dot_act w (Take p i)) rest h.1 ∙ set-length w.nodes p (join_dots (dots_at w.nodes p) (dots_at w.sent i))
calm-size w (a ∷ rest) h = absurd h.0

pub step-size : (w : DotWorld) (k : Command) → length (dot_each w (dot_acts w k)).nodes ≡ length w.nodes
step-size w (command.Add p x v) = set-length w.nodes p _
step-size w (command.Remove p x v) = set-length w.nodes p _
step-size w (command.Send p) = refl
step-size w (command.Deliver p i) = set-length w.nodes p _
step-size w command.Sync = calm-size w (sync_acts (length w.nodes) (length w.sent)) (calm-sync (length w.nodes) (length w.sent))
step-size w command.Settle = refl
step-size w (command.Print p x) = refl
step-size w (command.Insert p x v) = refl
step-size w (command.Inc p x k) = refl
step-size w (command.Max p x n) = refl
step-size w (command.Mark p x) = refl
step-size w (command.Bind p x m) = refl
step-size w (command.Read p x until) = refl
step-size w (command.Await p x until) = refl
step-size w (command.Declare d) = refl

abbrev sent_at : Stage → ℕ → Stage
sent_at s n = record { graph = s.graph; marked = s.marked; sent = n }

pub step-stage : (w : DotWorld) (k : Command) → IsDotCommand k → stage_after (length w.nodes) (stage_at w) k ≡ stage_at (dot_each w (dot_acts w k))
step-stage w (command.Add p x v) h = refl
step-stage w (command.Remove p x v) h = refl
step-stage w (command.Send p) h = ap (sent_at (stage_at w)) (sym (length-push w.sent (dots_at w.nodes p)))
step-stage w (command.Deliver p i) h = refl
step-stage w command.Sync h =
    ap (sent_at (stage_at w))
    (let same : length w.sent + length w.nodes ≡ length (dot_each w (dot_acts w command.Sync)).sent =
    omega (arith, calm-sent w (sync_acts (length w.nodes) (length w.sent)) (calm-sync (length w.nodes) (length w.sent)), posts-sync (length w.nodes) (length w.sent)) in same)
step-stage w command.Settle h = refl
step-stage w (command.Print p x) h = refl
step-stage w (command.Insert p x v) h = absurd h
step-stage w (command.Inc p x k) h = absurd h
step-stage w (command.Max p x n) h = absurd h
step-stage w (command.Mark p x) h = absurd h
step-stage w (command.Bind p x m) h = absurd h
step-stage w (command.Read p x until) h = absurd h
step-stage w (command.Await p x until) h = absurd h
step-stage w (command.Declare d) h = absurd h

-- what is left of a lawful script behind its next command
pub lawful-next : (w : DotWorld) (k : Command) (rest : List Command) → IsDotCommand k → AreLawful (length w.nodes) (stage_at w) (k ∷ rest) → AreLawful (length (dot_each w (dot_acts w k)).nodes) (stage_at (dot_each w (dot_acts w k))) rest
lawful-next w k rest known h =
    subst (λ (n : ℕ). AreLawful n (stage_at (dot_each w (dot_acts w k))) rest) (sym (step-size w k)) (subst (λ (s : Stage). AreLawful (length w.nodes) s rest) (step-stage w k known) h.1)

-- ---- what is left to be done

pub play-next : (w : DotWorld) (ks : List Command) (i : ℕ) (k : Command) → slice_get ks i ≡ Some k → dot_play w (drop i ks) ≡ dot_play (dot_each w (dot_acts w k)) (drop (i + 1) ks)
unfolding dot_play
play-next w ks i k at = ap (dot_play w) (drop-at ks i k at)

pub play-end : (w : DotWorld) (ks : List Command) (i : ℕ) → length ks ≤ i → dot_play w (drop i ks) ≡ w
unfolding dot_play
play-end w ks i past = ap (dot_play w) (drop_all i ks past)

pub text-next : (before after : List ℕ) (w : DotWorld) (ks : List Command) (i : ℕ) (k : Command) → slice_get ks i ≡ Some k → after ≡ before ++ dot_print w k
    → after ++ dot_text (dot_each w (dot_acts w k)) (drop (i + 1) ks) ≡ before ++ dot_text w (drop i ks)
unfolding dot_text
text-next before after w ks i k at e =
    ap (λ (t : List ℕ). t ++ dot_text (dot_each w (dot_acts w k)) (drop (i + 1) ks)) e
    ∙ append_assoc before (dot_print w k) (dot_text (dot_each w (dot_acts w k)) (drop (i + 1) ks))
    ∙ ap (λ (rest : List Command). before ++ dot_text w rest) (sym (drop-at ks i k at))

pub text-end : (text : List ℕ) (w : DotWorld) (ks : List Command) (i : ℕ) → length ks ≤ i → text ++ dot_text w (drop i ks) ≡ text
unfolding dot_text
text-end text w ks i past = ap (λ (rest : List Command). text ++ dot_text w rest) (drop_all i ks past) ∙ append-nil text

-- ---- the first command of another word

pub other-here : (number : ℕ) (ks : List Command) (i : ℕ) (k : Command) → slice_get ks i ≡ Some k → is_dot_command k ≡ false → first_other number (drop i ks) ≡ Some number
unfolding first_other
other-here number ks i k at other = ap (first_other number) (drop-at ks i k at) ∙ ap (λ (b : Bool). if b then first_other (number + 1) (drop (i + 1) ks) else Some number) other

pub other-next : (number : ℕ) (ks : List Command) (i : ℕ) (k : Command) → slice_get ks i ≡ Some k → is_dot_command k ≡ true → first_other number (drop i ks) ≡ first_other (number + 1) (drop (i + 1) ks)
unfolding first_other
other-next number ks i k at known = ap (first_other number) (drop-at ks i k at) ∙ ap (λ (b : Bool). if b then first_other (number + 1) (drop (i + 1) ks) else Some number) known

pub other-end : (number : ℕ) (ks : List Command) (i : ℕ) → length ks ≤ i → first_other number (drop i ks) ≡ None
unfolding first_other
other-end number ks i past = ap (first_other number) (drop_all i ks past)
