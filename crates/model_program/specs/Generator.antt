-- The graph and the script that fill four replicas, as bytes made of a seed and a count.
use Rattle.std.specs.Prelude.{ℕ, zero, suc, ◌+◌, ◌*◌, ◌/◌, ◌%◌, ◌==◌, nat_lt, if◌then◌else◌, List, [], ◌++◌, codes}
use Rattle.std.specs.Fmt.{decimal}

-- two sets with a union and an intersection, a filter, a map and a fold over these, and a counter
abbrev pub load_graph : List ℕ
load_graph = codes "[[\"a\",\"orset\"],[\"b\",\"orset\"],[\"c\",\"counter\"],[\"u\",\"union\",\"a\",\"b\"],[\"e\",\"filter\",\"u\",\"even\"],[\"i\",\"intersection\",\"a\",\"b\"],[\"n\",\"map\",\"u\",\"neg\"],[\"s\",\"fold\",\"u\",\"sum\",\"itself\"]]"

abbrev pub next_number : ℕ → ℕ
next_number x = (x * 1103515245 + 12345) % 2147483648

-- the number behind so many steps from the seed
abbrev pub number_at : ℕ → ℕ → ℕ
number_at seed zero = seed
number_at seed (suc j) = next_number (number_at seed j)

-- a word in quotes, and the comma behind it
abbrev pub quoted : List ℕ → List ℕ
quoted word = codes "\"" ++ word ++ codes "\","

-- the beginning of an update, up to what it brings: its word, node p, its variable
abbrev pub target : List ℕ → ℕ → List ℕ → List ℕ
target word p name = codes "[" ++ quoted word ++ decimal p ++ codes "," ++ quoted name

-- an update of a variable at node p
abbrev pub update : List ℕ → ℕ → List ℕ → ℕ → List ℕ
update word p name v = target word p name ++ decimal v ++ codes "]"

-- which of eight commands is made, at which of four nodes, with which number below 1,024
abbrev pub made_of : ℕ → ℕ → ℕ → List ℕ
made_of choice p v =
    if nat_lt choice 2 then update (codes "add") p (codes "a") v else
    if nat_lt choice 4 then update (codes "add") p (codes "b") v else
    if choice == 4 then update (codes "remove") p (codes "a") v else
    if choice == 5 then update (codes "remove") p (codes "b") v else
    update (codes "inc") p (codes "c") (v + 1)

-- the command that the upper half of a number stands for
abbrev pub command : ℕ → List ℕ
command drawn = made_of (drawn / 4 % 8) (drawn % 4) (drawn / 32)

-- behind each 2,000th command all nodes hear of each other, and settle
abbrev pub pause : ℕ → List ℕ
pause j = if j % 2000 == 0 then codes ",[\"sync\"],[\"settle\"]" else []

-- the command of number x, the jth of all, behind a comma, with what follows it
abbrev pub listed : ℕ → ℕ → List ℕ
listed x j = codes "," ++ command (x / 65536) ++ pause j

-- the first so many commands
unfoldable pub commands : ℕ → ℕ → List ℕ
commands seed zero = []
commands seed (suc j) = commands seed j ++ listed (number_at seed (suc j)) (suc j)

-- the script
abbrev pub load_script : ℕ → ℕ → List ℕ
load_script seed count = codes "[[\"nodes\",4]" ++ commands seed count ++ codes ",[\"sync\"]]"
