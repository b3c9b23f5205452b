-- That what a function returned is what reading says, unless memory ran out.
use Rattle.std.specs.Prelude.{◌≡◌, ℕ, Option, Some, None, Result, Ok, Err}
use Rattle.model_readings.specs.declared.graph_why.GraphWhy.{GraphWhy}
use Rattle.model_readings.specs.declared.graph_why.GraphWhy.TheVariants as why
use Rattle.lasp_graph.specs.declared.refused.DeclRefused.{DeclRefused}
use Rattle.lasp_graph.specs.declared.refused.DeclRefused.TheVariants as decl
use Rattle.lasp_graph.specs.declared.refused.GraphRefused.{GraphRefused}
use Rattle.lasp_graph.specs.declared.refused.GraphRefused.TheVariants as graph

-- the cause of a refusal; none where memory was wanting
abbrev pub why_of : DeclRefused → Option GraphWhy
why_of decl.Shape = Some why.Shape
why_of decl.NameShape = Some why.NameShape
why_of decl.NameTaken = Some why.NameTaken
why_of decl.UnknownInput = Some why.UnknownInput
why_of decl.WrongKind = Some why.WrongKind
why_of decl.UnknownFunction = Some why.UnknownFunction
why_of decl.TooWide = Some why.TooWide
why_of decl.Memory = None

-- it is refused for this cause; want of memory may always be
abbrev pub CausedBy : {Y : Type 0} → Option GraphWhy → Result Y GraphWhy → Type 0
CausedBy (Some w) read = read ≡ Err w
CausedBy None read = Unit {0}

-- the refusal of one declaration
abbrev pub Causes : {Y : Type 0} → DeclRefused → Result Y GraphWhy → Type 0
Causes e read = CausedBy (why_of e) read

-- what was returned for one declaration, seen by view, is what is read
abbrev pub Answers : {X Y : Type 0} → (X → Y) → Result X DeclRefused → Result Y GraphWhy → Type 0
Answers view (Ok x) read = read ≡ Ok (view x)
Answers view (Err e) read = Causes e read

-- the refusal of the graph whose declaration with this number is refused
abbrev pub refused_at : ℕ → Option GraphWhy → GraphRefused
refused_at number (Some w) = graph.At number w
refused_at number None = graph.Memory

-- the graph is refused for its declaration with this number
abbrev pub FailsAt : {Y : Type 0} → ℕ → GraphRefused → Result Y GraphWhy → Type 0
FailsAt n (graph.At number w) read = (number ≡ n) × (read ≡ Err w)
FailsAt n graph.Memory read = Unit {0}

-- what was returned for the declaration with this number, seen by view, is what is read
abbrev pub GivesAt : {X Y : Type 0} → ℕ → (X → Y) → Result X GraphRefused → Result Y GraphWhy → Type 0
GivesAt n view (Ok x) read = read ≡ Ok (view x)
GivesAt n view (Err e) read = FailsAt n e read

-- the refusal of a graph
abbrev pub Fails : {Y : Type 0} → GraphRefused → Result Y (ℕ × GraphWhy) → Type 0
Fails (graph.At number why) read = read ≡ Err (number, why)
Fails graph.Memory read = Unit {0}

-- what was returned for a graph, seen by view, is what is read
abbrev pub Gives : {X Y : Type 0} → (X → Y) → Result X GraphRefused → Result Y (ℕ × GraphWhy) → Type 0
Gives view (Ok x) read = read ≡ Ok (view x)
Gives view (Err e) read = Fails e read
