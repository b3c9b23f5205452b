-- Calls of `live` follow their plan.
use Rattle.std.proofs.Common.{ℕ, ◌<◌, List, length, sym, ap, subst, ◌∙◌, arith}
use Rattle.std.specs.Prelude.{◌≡◌, Option, Some, None, Result, Ok, Err, string_bytes}
use Rattle.model_functions.specs.Library.{Library}
use Rattle.model_graph.specs.Evaluation.{eval}
use Rattle.model_graph.specs.Graph.{Decl}
use Rattle.model_graph.proofs.EvalLaws.{eval-length}
use Rattle.model_live.specs.Lived.{IsLived}
use Rattle.model_live.specs.Together.{full, too_large}
use Rattle.model_live.specs.Words.{AreLive, first_other}
use Rattle.model_live.proofs.WordLaws.{known-none}
use Rattle.model_program.specs.Follows.{View, Allows, Follows, Passes, Stops}
use Rattle.model_program.specs.Live.{Output, LiveFollows, live_answer, live_or, small_or, living}
use Rattle.model_program.specs.Plan.{Answer}
use Rattle.model_program.specs.declared.failure.Failure.{Failure}
use Rattle.model_program.specs.declared.failure.Failure.TheVariants.{Refused, ReadFault, Memory}
use Rattle.model_program.specs.declared.refusal.Refusal.{Refusal}
use Rattle.model_program.specs.declared.refusal.Refusal.TheVariants.{NotLive}
use Rattle.model_runs.proofs.StopLaws.{first-low}
use Rattle.model_world.specs.Command.{Script}
use Rattle.lasp_run.specs.Run.{opening_run}
use Rattle.lasp_live_run.specs.declared.run.Lived.{Lived}
use Rattle.lasp_top.specs.Live.{IsTooLarge, LiveAllows, lived_of}
use Rattle.lasp_top.proofs.ClosedLaws.{follows-part, follows-stop}

-- a text of a script that nodes may run
pub lived-allows : (g : List Decl) (script : Script) (o : Output) → first_other 1 script.commands ≡ None → too_large g script ≡ None → IsLived g script o.failed o.text → LiveAllows g script (Ok o)
lived-allows g script o live small is =
    subst (λ (w : Option ℕ). Allows (live_or g script o.failed w) (Ok o.text)) (sym live) (subst (λ (l : Option ℕ). Allows (small_or g script o.failed l) (Ok o.text)) (sym small) is)

-- a call that read both files, and what it came to behind them
pub live-follows : (lib : Library) (words : List (List ℕ)) (v : View) (g : List Decl) (script : Script) (answer : Result Output Failure) → Passes words v (opening_run lib) (g, script) → LiveAllows g script answer → LiveFollows lib words v answer
live-follows lib words v g script (Ok o) part allows = follows-part words v (opening_run lib) (g, script) (λ (b : List Decl × Script). live_answer o.failed b.0 b.1) (Ok o.text) part allows
live-follows lib words v g script (Err failure) part allows = follows-part words v (opening_run lib) (g, script) (λ (b : List Decl × Script). live_answer None b.0 b.1) (Err failure) part allows

-- a call that came to its end there
pub live-stops : (lib : Library) (words : List (List ℕ)) (v : View) (failure : Failure) → Stops words v (opening_run lib) failure → LiveFollows lib words v (Err failure)
live-stops lib words v failure part = follows-stop words v (opening_run lib) (λ (b : List Decl × Script). live_answer None b.0 b.1) failure part

-- ---- what the code answers

-- what is too large when all is known is a variable of the graph
pub large-low : (g : List Decl) (script : Script) (x : ℕ) → Some x ≡ too_large g script → x < length g
large-low g script x large = omega (arith, first-low 0 (eval g (full g script)) x (sym large), eval-length g (full g script))

pub run-lives : (g : List Decl) (script : Script) (l : Lived) → AreLive script.commands → None ≡ too_large g script → IsLived g script l.failed (string_bytes l.text) → LiveAllows g script (lived_of (Ok l))
run-lives g script l live small is = lived-allows g script (record { text = string_bytes l.text; failed = l.failed }) (known-none 1 script.commands live) (sym small) is

pub large-refused : (g : List Decl) (script : Script) (x : ℕ) (failure : Failure) → AreLive script.commands → Some x ≡ too_large g script → IsTooLarge g script x failure → LiveAllows g script (Err failure)
large-refused g script x (Refused refusal) live large is = ap (live_or g script None) (known-none 1 script.commands live) ∙ ap (small_or g script None) (sym large) ∙ ap (λ (r : Refusal). Err r) (sym is)
large-refused g script x (ReadFault f) live large is = absurd is
large-refused g script x Memory live large is = tt

pub other-refused : (g : List Decl) (script : Script) (number : ℕ) → Some number ≡ first_other 1 script.commands → LiveAllows g script (Err (Refused (NotLive number)))
other-refused g script number is = ap (live_or g script None) (sym is)

pub ruleset livings = (run-lives, large-refused, other-refused, large-low)
