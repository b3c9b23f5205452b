-- What is kept behind a command more is what the command leaves.
use Rattle.std.proofs.Common.{◌≡◌, ◌∙◌, refl, sym, ap, ℕ, ◌+◌, ◌<◌, ◌≤◌, arith, Bool, true, false, List, [], ◌∷◌, ◌++◌, length, filter, Option, Some, None, length-append, if◌then◌else◌}
use Rattle.std.proofs.lemmas.List.{map-append, append-nil}
use Rattle.std.proofs.Math.Nat.{add-zero}
use Rattle.std.proofs.lemmas.List.Elements.{filter-append}
use Rattle.model_graph.specs.Graph.{Decl}
use Rattle.model_world.specs.Command.{Command, Add, Remove, Insert, Inc, Max, Mark, Bind, Send, Deliver, Sync, Settle, Print, Read, Await, Declare}
use Rattle.model_world.specs.Lawful.{Stage, stage_after, is_mark, is_read}
use Rattle.model_scripts.specs.Progress.{grown_by}
use Rattle.model_scripts.specs.Check.{command_limit}
use Rattle.lasp_script.specs.Marks as marks
use Rattle.lasp_script.specs.Marks.{names_of, marked_of}
use Rattle.lasp_script.specs.Progress.{left, count_among, IsKept, present, progress_over, marks_by, sent_by, reads_by, behind, MayMark}

-- ---- counts

filter-most : (test : Command → Bool) (ks : List Command) → count_among test ks ≤ length ks
filter-most test [] = omega arith
filter-most test (k ∷ ks) = by (test k) (filter-most test ks) where
  by : (b : Bool) → count_among test ks ≤ length ks → length (if b then k ∷ filter test ks else filter test ks) ≤ length (k ∷ ks)
  by true h = omega (arith, h)
  by false h = omega (arith, h)

count-more : (test : Command → Bool) (ks : List Command) (k : Command) → count_among test (ks ++ k ∷ []) ≡ count_among test ks + count_among test (k ∷ [])
count-more test ks k = ap (λ (l : List Command). length l) (filter-append test ks (k ∷ [])) ∙ length-append (filter test ks) (filter test (k ∷ []))

marks-counted : (ms : List marks.Mark) (k : Command) (name : Option (List ℕ)) → MayMark ms k name → length (marks_by k name) ≡ count_among is_mark (k ∷ [])
marks-counted ms (Mark p x) (Some m) may = refl
marks-counted ms (Mark p x) None may = absurd may
marks-counted ms (Add p x v) name may = refl
marks-counted ms (Remove p x v) name may = refl
marks-counted ms (Insert p x v) name may = refl
marks-counted ms (Inc p x n) name may = refl
marks-counted ms (Max p x n) name may = refl
marks-counted ms (Bind p x m) name may = refl
marks-counted ms (Send p) name may = refl
marks-counted ms (Deliver p i) name may = refl
marks-counted ms Sync name may = refl
marks-counted ms Settle name may = refl
marks-counted ms (Print p x) name may = refl
marks-counted ms (Read p x until) name may = refl
marks-counted ms (Await p x until) name may = refl
marks-counted ms (Declare d) name may = refl

reads-counted : (k : Command) → reads_by k ≡ count_among is_read (k ∷ [])
reads-counted (Add p x v) = refl
reads-counted (Remove p x v) = refl
reads-counted (Insert p x v) = refl
reads-counted (Inc p x n) = refl
reads-counted (Max p x n) = refl
reads-counted (Mark p x) = refl
reads-counted (Bind p x m) = refl
reads-counted (Send p) = refl
reads-counted (Deliver p i) = refl
reads-counted Sync = refl
reads-counted Settle = refl
reads-counted (Print p x) = refl
reads-counted (Read p x until) = refl
reads-counted (Await p x until) = refl
reads-counted (Declare d) = refl

sent-most : (nodes : ℕ) (k : Command) → nodes ≤ 255 → sent_by nodes k ≤ 255
sent-most nodes (Add p x v) few = omega arith
sent-most nodes (Remove p x v) few = omega arith
sent-most nodes (Insert p x v) few = omega arith
sent-most nodes (Inc p x n) few = omega arith
sent-most nodes (Max p x n) few = omega arith
sent-most nodes (Mark p x) few = omega arith
sent-most nodes (Bind p x m) few = omega arith
sent-most nodes (Send p) few = omega arith
sent-most nodes (Deliver p i) few = omega arith
sent-most nodes Sync few = few
sent-most nodes Settle few = omega arith
sent-most nodes (Print p x) few = omega arith
sent-most nodes (Read p x until) few = omega arith
sent-most nodes (Await p x until) few = omega arith
sent-most nodes (Declare d) few = omega arith

-- the reads so far and one command's are few
pub reads-few : (ks : List Command) (k : Command) (reads : ℕ) → length ks < command_limit → reads ≡ count_among is_read ks → reads + reads_by k ≤ command_limit
reads-few ks k reads few same = omega (arith, few, same, filter-most is_read ks, reads-counted k, filter-most is_read (k ∷ []))

-- what is kept beside the commands stays theirs
pub kept-more : (nodes : ℕ) (ks : List Command) (ms : List marks.Mark) (sent reads : ℕ) (k : Command) (name : Option (List ℕ)) (ks' : List Command) (ms' : List marks.Mark) (sent' reads' : ℕ)
    → nodes ≤ 255 → IsKept ks ms sent reads → length ks + 1 < command_limit → MayMark ms k name
    → ks' ≡ ks ++ k ∷ [] → ms' ≡ ms ++ marks_by k name → sent' ≡ sent + sent_by nodes k → reads' ≡ reads + reads_by k → IsKept ks' ms' sent' reads'
kept-more nodes ks ms sent reads k name ks' ms' sent' reads' small kept room may commands added messages opened =
    let long : length ks' ≡ length ks + 1 = ap (λ (l : List Command). length l) commands ∙ length-append ks (k ∷ []) in
    let made : length ms' ≡ length ms + count_among is_mark (k ∷ []) =
    ap (λ (l : List marks.Mark). length l) added ∙ length-append ms (marks_by k name) ∙ ap (λ (n : ℕ). length ms + n) (marks-counted ms k name may) in
    record {
      few = omega (arith, room, long);
      marked = made ∙ ap (λ (n : ℕ). n + count_among is_mark (k ∷ [])) kept.marked ∙ sym (count-more is_mark ks k) ∙ ap (count_among is_mark) (sym commands);
      read = opened ∙ (λ i. kept.read i + reads-counted k i) ∙ sym (count-more is_read ks k) ∙ ap (count_among is_read) (sym commands);
      messages = omega (arith, messages, sent-most nodes k small, kept.messages, long);
    }

-- ---- progress

abbrev stage : List Decl → List marks.Mark → ℕ → Stage
stage g ms sent = record { graph = g; marked = marked_of ms; sent = sent }

unmarked : (g : List Decl) (ms : List marks.Mark) (sent : ℕ) → stage g ms sent ≡ stage g (ms ++ []) sent
unmarked g ms sent = λ i. stage g (sym (append-nil ms) i) sent

quiet : (g : List Decl) (ms : List marks.Mark) (sent : ℕ) → stage g ms sent ≡ stage g (ms ++ []) (sent + 0)
quiet g ms sent = λ i. stage g (sym (append-nil ms) i) (sym (add-zero sent) i)

stage-more : (nodes : ℕ) (g : List Decl) (ms : List marks.Mark) (sent : ℕ) (k : Command) (name : Option (List ℕ)) → MayMark ms k name
    → stage (grown_by g k) (ms ++ marks_by k name) (sent + sent_by nodes k) ≡ stage_after nodes (stage g ms sent) k
stage-more nodes g ms sent (Mark p x) (Some m) may = λ i. record { graph = g; marked = map-append (λ (n : marks.Mark). n.1) ms ((m, x) ∷ []) i; sent = add-zero sent i }
stage-more nodes g ms sent (Mark p x) None may = absurd may
stage-more nodes g ms sent (Add p x v) name may = sym (quiet g ms sent)
stage-more nodes g ms sent (Remove p x v) name may = sym (quiet g ms sent)
stage-more nodes g ms sent (Insert p x v) name may = sym (quiet g ms sent)
stage-more nodes g ms sent (Inc p x n) name may = sym (quiet g ms sent)
stage-more nodes g ms sent (Max p x n) name may = sym (quiet g ms sent)
stage-more nodes g ms sent (Bind p x m) name may = sym (quiet g ms sent)
stage-more nodes g ms sent (Send p) name may = sym (unmarked g ms (sent + 1))
stage-more nodes g ms sent (Deliver p j) name may = sym (quiet g ms sent)
stage-more nodes g ms sent Sync name may = sym (unmarked g ms (sent + nodes))
stage-more nodes g ms sent Settle name may = sym (quiet g ms sent)
stage-more nodes g ms sent (Print p x) name may = sym (quiet g ms sent)
stage-more nodes g ms sent (Read p x until) name may = sym (quiet g ms sent)
stage-more nodes g ms sent (Await p x until) name may = sym (quiet g ms sent)
stage-more nodes g ms sent (Declare d) name may = sym (quiet (g ++ d ∷ []) ms sent)

pub behind-more : (nodes : ℕ) (g : List Decl) (ks : List Command) (h : Option (List Decl)) (ms : List marks.Mark) (sent : ℕ) (k : Command) (name : Option (List ℕ)) (ks' : List Command) (h' : Option (List Decl)) (ms' : List marks.Mark) (sent' : ℕ)
    → MayMark ms k name → ks' ≡ ks ++ k ∷ [] → present g h' ≡ grown_by (present g h) k → ms' ≡ ms ++ marks_by k name → sent' ≡ sent + sent_by nodes k
    → progress_over g (left ks' h' ms' sent') ≡ behind nodes (progress_over g (left ks h ms sent)) k name
behind-more nodes g ks h ms sent k name ks' h' ms' sent' may commands graph made messages =
    (λ i. record { commands = commands i; stage = stage (graph i) (made i) (messages i); names = names_of (made i) })
    ∙ (λ i. record { commands = ks ++ k ∷ []; stage = stage-more nodes (present g h) ms sent k name may i; names = map-append (λ (n : marks.Mark). n.0) ms (marks_by k name) i })
