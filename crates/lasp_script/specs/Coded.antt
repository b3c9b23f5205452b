-- Scripts as trees of numbers.
use Rattle.std.specs.Prelude.{◌≡◌, ℕ, List, [], ◌∷◌, if◌then◌else◌, ◌==◌, slice_index_or, refl}
use Rattle.std.specs.Coded.{Coded, code_by, coded×, coded_ℕ, coded_list}
use Rattle.model_values.specs.Value.{Val, int, text, coded_val}
use Rattle.model_functions.specs.Lift.{number_of}
use Rattle.model_graph.specs.Graph.{OrSet, Decl}
use Rattle.model_world.specs.Command.{Until, AtLeast, Above, Count, Added, Removed, Command, Add, Remove, Insert, Inc, Max, Mark, Bind, Send, Deliver, Sync, Settle, Print, Read, Await, Declare, Script}
use Rattle.model_graph.specs.Coded.{coded_decls}

abbrev pub until_numbers : Until → ℕ × ℕ
until_numbers (AtLeast m) = (0, m)
until_numbers (Above m) = (1, m)
until_numbers (Count n) = (2, n)
until_numbers (Added vs) = (3, 0)
until_numbers (Removed vs) = (4, 0)

abbrev pub until_values : Until → List Val
until_values (AtLeast m) = []
until_values (Above m) = []
until_values (Count n) = []
until_values (Added vs) = vs
until_values (Removed vs) = vs

abbrev pub until_from : ℕ → ℕ → List Val → Until
until_from kind n vs =
    if kind == 0 then AtLeast n else
    if kind == 1 then Above n else
    if kind == 2 then Count n else
    if kind == 3 then Added vs else
    Removed vs

until_from-parts : (u : Until) → until_from (until_numbers u).0 (until_numbers u).1 (until_values u) ≡ u
until_from-parts (AtLeast m) = refl
until_from-parts (Above m) = refl
until_from-parts (Count n) = refl
until_from-parts (Added vs) = refl
until_from-parts (Removed vs) = refl

-- a command's place among the commands with its numbers, and the values and the declaration that it may have
abbrev pub Parts : Type 0
Parts = List ℕ × (List Val × List Decl)

abbrev pub command_parts : Command → Parts
command_parts (Add p x v) = (0 ∷ p ∷ x ∷ [], (v ∷ [], []))
command_parts (Remove p x v) = (1 ∷ p ∷ x ∷ [], (v ∷ [], []))
command_parts (Insert p x v) = (2 ∷ p ∷ x ∷ [], (v ∷ [], []))
command_parts (Inc p x k) = (3 ∷ p ∷ x ∷ k ∷ [], ([], []))
command_parts (Max p x n) = (4 ∷ p ∷ x ∷ [], (int n ∷ [], []))
command_parts (Mark p x) = (5 ∷ p ∷ x ∷ [], ([], []))
command_parts (Bind p x m) = (6 ∷ p ∷ x ∷ m ∷ [], ([], []))
command_parts (Send p) = (7 ∷ p ∷ [], ([], []))
command_parts (Deliver p m) = (8 ∷ p ∷ m ∷ [], ([], []))
command_parts Sync = (9 ∷ [], ([], []))
command_parts Settle = (10 ∷ [], ([], []))
command_parts (Print p x) = (11 ∷ p ∷ x ∷ [], ([], []))
command_parts (Read p x u) = (12 ∷ p ∷ x ∷ (until_numbers u).0 ∷ (until_numbers u).1 ∷ [], (until_values u, []))
command_parts (Await p x u) = (13 ∷ p ∷ x ∷ (until_numbers u).0 ∷ (until_numbers u).1 ∷ [], (until_values u, []))
command_parts (Declare d) = (14 ∷ [], ([], d ∷ []))

-- the number at a place
abbrev pub part : Parts → ℕ → ℕ
part p i = slice_index_or p.0 i 0

-- the first value
abbrev pub value_in : List Val → Val
value_in vs = slice_index_or vs 0 (text [])

-- the first declaration
abbrev pub decl_in : List Decl → Decl
decl_in ds = slice_index_or ds 0 (record { name = []; kind = OrSet })

abbrev pub command_from : Parts → Command
command_from p =
    if part p 0 == 0 then Add (part p 1) (part p 2) (value_in p.1.0) else
    if part p 0 == 1 then Remove (part p 1) (part p 2) (value_in p.1.0) else
    if part p 0 == 2 then Insert (part p 1) (part p 2) (value_in p.1.0) else
    if part p 0 == 3 then Inc (part p 1) (part p 2) (part p 3) else
    if part p 0 == 4 then Max (part p 1) (part p 2) (number_of (value_in p.1.0)) else
    if part p 0 == 5 then Mark (part p 1) (part p 2) else
    if part p 0 == 6 then Bind (part p 1) (part p 2) (part p 3) else
    if part p 0 == 7 then Send (part p 1) else
    if part p 0 == 8 then Deliver (part p 1) (part p 2) else
    if part p 0 == 9 then Sync else
    if part p 0 == 10 then Settle else
    if part p 0 == 11 then Print (part p 1) (part p 2) else
    if part p 0 == 12 then Read (part p 1) (part p 2) (until_from (part p 3) (part p 4) p.1.0) else
    if part p 0 == 13 then Await (part p 1) (part p 2) (until_from (part p 3) (part p 4) p.1.0) else
    Declare (decl_in p.1.1)

pub command_from-parts : (k : Command) → command_from (command_parts k) ≡ k
command_from-parts (Add p x v) = refl
command_from-parts (Remove p x v) = refl
command_from-parts (Insert p x v) = refl
command_from-parts (Inc p x k) = refl
command_from-parts (Max p x n) = refl
command_from-parts (Mark p x) = refl
command_from-parts (Bind p x m) = refl
command_from-parts (Send p) = refl
command_from-parts (Deliver p m) = refl
command_from-parts Sync = refl
command_from-parts Settle = refl
command_from-parts (Print p x) = refl
command_from-parts (Read p x u) = λ i. Read p x (until_from-parts u i)
command_from-parts (Await p x u) = λ i. Await p x (until_from-parts u i)
command_from-parts (Declare d) = refl

abbrev pub coded_command : Coded Command
coded_command = code_by Parts (coded× (coded_list coded_ℕ) (coded× (coded_list coded_val) coded_decls)) command_parts command_from command_from-parts

abbrev pub coded_script : Coded Script
coded_script = code_by (ℕ × List Command) (coded× coded_ℕ (coded_list coded_command)) (λ s. (s.nodes, s.commands)) (λ p. record { nodes = p.0; commands = p.1 }) (λ _. refl)
