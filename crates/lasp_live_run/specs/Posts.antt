-- The mailboxes of all nodes and their ends, before the run and when they are closed. Number q * nodes + p is from node q to node p.
use Rattle.std.specs.Prelude.{◌≡◌, ℕ, ◌+◌, ◌*◌, ◌<◌, ◌≤◌, List, [], ◌∷◌, ◌++◌, length, slice_get, slice_set, Some}
use Rattle.std.specs.declared.alloc.Global.{Global}
use Rattle.std.specs.declared.vec.Vec.{Vec}
use mathlib.Core.List.{IsPrefix}
use Rattle.lasp_live.specs.Ends.{Box, Out, In, AreEnds, AreUnused}
use Rattle.lasp_live.specs.Sealed.{Plan}

-- the outlets of each node, and the inlets of each
abbrev pub Outs : Type 0
Outs = List (Vec Out Global)

abbrev pub Ins : Type 0
Ins = List (Vec In Global)

-- the ends of each node, through which nothing went
pub record AreFreshEnds (plan : Plan) (nodes : ℕ) (boxes : List Box) (outs : Outs) (ins : Ins) : Type 0 where
  pub outs_many : length outs ≡ nodes
  pub ins_many : length ins ≡ nodes
  pub each : (p : ℕ) (os : Vec Out Global) (es : Vec In Global) → slice_get outs p ≡ Some os → slice_get ins p ≡ Some es → AreEnds plan nodes p boxes os.items es.items × AreUnused os.items es.items

-- ---- while they are made

-- the outlets of node k to the first so many nodes, through which nothing went
pub record IsRow (nodes k many : ℕ) (boxes : List Box) (os : List Out) : Type 0 where
  pub size : length os ≡ many
  pub each : (j : ℕ) (o : Out) → slice_get os j ≡ Some o → (o.put ≡ []) × (slice_get boxes (k * nodes + j) ≡ Some o.of)

-- the inlets of node j from the first so many nodes, through which nothing went
pub record IsColumn (nodes j many : ℕ) (boxes : List Box) (es : List In) : Type 0 where
  pub size : length es ≡ many
  pub each : (k : ℕ) (e : In) → slice_get es k ≡ Some e → (e.got ≡ []) × (slice_get boxes (k * nodes + j) ≡ Some e.of)

-- the mailboxes from the nodes before q to each, and from q to the nodes before p
pub record AreMade (plan : Plan) (nodes q p : ℕ) (boxes : List Box) (row : List Out) (ins : Ins) : Type 0 where
  pub many : length boxes ≡ q * nodes + p
  pub planned : (b : ℕ) (box : Box) → slice_get boxes b ≡ Some box → box.frame ≡ Some plan
  pub row_is : IsRow nodes q p boxes row
  pub columns : length ins ≡ nodes
  pub done : (j : ℕ) (es : Vec In Global) → slice_get ins j ≡ Some es → j < p → IsColumn nodes j (q + 1) boxes es.items
  pub left : (j : ℕ) (es : Vec In Global) → slice_get ins j ≡ Some es → p ≤ j → IsColumn nodes j q boxes es.items

-- those from the nodes before q to each
pub record AreRowsMade (plan : Plan) (nodes q : ℕ) (boxes : List Box) (outs : Outs) (ins : Ins) : Type 0 where
  pub rows_many : length outs ≡ q
  pub rows : (k : ℕ) (os : Vec Out Global) → slice_get outs k ≡ Some os → IsRow nodes k nodes boxes os.items
  pub made : AreMade plan nodes q 0 boxes [] ins

-- one more inlet of node p, and nothing else has changed
pub record IsPushedTo (p : ℕ) (e : In) (old new : Ins) : Type 0 where
  pub before : Vec In Global
  pub after : Vec In Global
  pub at : slice_get old p ≡ Some before
  pub is : new ≡ slice_set old p after
  pub items : after.items ≡ before.items ++ e ∷ []

-- ---- when they are closed

-- of each two nodes, what was got begins what was put
abbrev pub HaveBegun : Outs → Ins → Type 0
HaveBegun outs ins = (q p : ℕ) (os : Vec Out Global) (es : Vec In Global) (o : Out) (e : In) → slice_get outs q ≡ Some os → slice_get ins p ≡ Some es → slice_get os.items p ≡ Some o → slice_get es.items q ≡ Some e → IsPrefix e.got o.put

-- as many mailboxes as there are pairs of nodes, and the ends of each
pub record AreAllEnds (nodes : ℕ) (boxes : List Box) (outs : Outs) (ins : Ins) : Type 0 where
  pub square : length boxes ≡ nodes * nodes
  pub rows : length outs ≡ nodes
  pub columns : length ins ≡ nodes
  pub outs_of : (q : ℕ) (os : Vec Out Global) → slice_get outs q ≡ Some os → (length os.items ≡ nodes) × ((p : ℕ) (o : Out) → slice_get os.items p ≡ Some o → slice_get boxes (q * nodes + p) ≡ Some o.of)
  pub ins_of : (p : ℕ) (es : Vec In Global) → slice_get ins p ≡ Some es → (length es.items ≡ nodes) × ((q : ℕ) (e : In) → slice_get es.items q ≡ Some e → slice_get boxes (q * nodes + p) ≡ Some e.of)

-- what is left of them: the mailboxes from the nodes before q to each, and from q to the nodes before p
pub record AreLeft (nodes q p : ℕ) (boxes : List Box) (row : List Out) (ins : Ins) : Type 0 where
  pub many : length boxes ≡ q * nodes + p
  pub within : p ≤ nodes
  pub row_many : length row ≡ p
  pub row_of : (j : ℕ) (o : Out) → slice_get row j ≡ Some o → slice_get boxes (q * nodes + j) ≡ Some o.of
  pub columns : length ins ≡ nodes
  pub here : (j : ℕ) (es : Vec In Global) → slice_get ins j ≡ Some es → j < p → length es.items ≡ q + 1
  pub gone : (j : ℕ) (es : Vec In Global) → slice_get ins j ≡ Some es → p ≤ j → length es.items ≡ q
  pub ins_of : (j : ℕ) (es : Vec In Global) (k : ℕ) (e : In) → slice_get ins j ≡ Some es → slice_get es.items k ≡ Some e → slice_get boxes (k * nodes + j) ≡ Some e.of

-- the last inlet of node p is taken, and nothing else has changed
pub record IsPoppedFrom (p : ℕ) (e : In) (old new : Ins) : Type 0 where
  pub before : Vec In Global
  pub after : Vec In Global
  pub at : slice_get old p ≡ Some before
  pub is : new ≡ slice_set old p after
  pub items : before.items ≡ after.items ++ e ∷ []

-- node p has no inlet
abbrev pub HasNone : ℕ → Ins → Type 0
HasNone p ins = (es : Vec In Global) → slice_get ins p ≡ Some es → length es.items ≡ 0

-- the ends that are left of node p's inlets are the first of those that there were
abbrev pub AreFirstOf : Ins → Ins → Type 0
AreFirstOf new old = (p : ℕ) (es fs : Vec In Global) → slice_get old p ≡ Some es → slice_get new p ≡ Some fs → IsPrefix fs.items es.items

-- the mailboxes from node q were closed, and of each what was got begins what was put
pub record HaveBegunFrom (q : ℕ) (row : List Out) (old new : Ins) : Type 0 where
  pub begun : (p : ℕ) (es : Vec In Global) (o : Out) (e : In) → slice_get row p ≡ Some o → slice_get old p ≡ Some es → slice_get es.items q ≡ Some e → IsPrefix e.got o.put
  pub first : AreFirstOf new old

-- the mailboxes that were there are the first of these
abbrev pub IsBehind : List Box → List Box → Type 0
IsBehind old new = (b : ℕ) (box : Box) → slice_get old b ≡ Some box → slice_get new b ≡ Some box
