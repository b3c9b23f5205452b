-- Where bytes can't be read on as a message, and why: what stands before the place is whole, lawful and in order, and what stands there fails. Said by how the parts of a message are spelled, in both versions, and by nothing that reads them.
use Rattle.std.specs.Prelude.{◌≡◌, ◌⊎◌, ℕ, suc, ◌+◌, ◌^◌, ◌-◌, ◌<◌, ◌≤◌, Bool, true, List, [], ◌∷◌, ◌++◌, length, map, flat_map, codes}
use Rattle.std.specs.List.{AllByRecursion}
use Rattle.std.specs.Str.{is_utf8}
use Rattle.std.specs.FinMap.Entries.{is_sorted}
use Rattle.model_values.specs.Value.{Val}
use Rattle.model_values.specs.Size.{leaves, text_bytes}
use Rattle.model_values.specs.Token.{Tok, tok_cmp}
use Rattle.model_values.specs.Name.{is_name}
use Rattle.model_sets.specs.Rows.{IsAscending}
use Rattle.model_sets.specs.Values.{AreAscending}
use Rattle.model_states.specs.Counts.{count_max}
use Rattle.model_graph.specs.Spelling.{Group, number, truth, spelled_value, spelled_token, spelled_group, spelled_counts}
use Rattle.model_wire.specs.declared.wire_why.WireWhy.{WireWhy}
use Rattle.model_wire.specs.declared.wire_why.WireWhy.TheVariants.{Short, Magic, Kind, Order, Text, Range, Rest}
use Rattle.model_wire.specs.Message.{is_version}
use Rattle.model_wire.specs.Spelling.{spelled_row, spelled_source_in}
use Rattle.model_wire.specs.Lawful.{IsSpellable, IsSourceValue, IsNodes, IsToken, IsRow, AreRows, AreElements, AreAtMost, IsSent}
use Rattle.model_wire.specs.Prefix.{HasMessageBefore}

-- bytes, a place in them and a cause
abbrev pub Failure : Type 1
Failure = List ℕ → ℕ → WireWhy → Type 0

-- ---- how a part fails

-- the bytes end within a field of so many
pub record EndsWithin (size : ℕ) (bytes : List ℕ) (place : ℕ) (why : WireWhy) : Type 0 where
  pub few : length bytes < size
  pub at_front : place ≡ 0
  pub cause : why ≡ Short

-- something stands whole at the front, and may not stand there
pub record IsRefused {X : Type 0} (Is : X → Type 0) (spelled : X → List ℕ) (May : X → Type 0) (for : WireWhy) (bytes : List ℕ) (place : ℕ) (why : WireWhy) : Type 0 where
  pub item : X
  pub is : Is item
  pub more : List ℕ
  pub parts : bytes ≡ spelled item ++ more
  pub may_not : May item → ⊥
  pub at_front : place ≡ 0
  pub cause : why ≡ for

-- something stands at the front as it may, and what is behind it fails
pub record FailsBehind {X : Type 0} (Is : X → Type 0) (spelled : X → List ℕ) (Next : X → Failure) (bytes : List ℕ) (place : ℕ) (why : WireWhy) : Type 0 where
  pub item : X
  pub is : Is item
  pub more : List ℕ
  pub parts : bytes ≡ spelled item ++ more
  pub offset : ℕ
  pub fails : Next item more offset why
  pub place_is : place ≡ length (spelled item) + offset

abbrev pub EitherFails : Failure → Failure → Failure
EitherFails First Second bytes place why = First bytes place why ⊎ Second bytes place why

abbrev pub FailsWhere : Type 0 → Failure → Failure
FailsWhere Holds Part bytes place why = Holds × Part bytes place why

-- ---- fields

abbrev pub IsBetween : ℕ → ℕ → ℕ → Type 0
IsBetween least most n = (least ≤ n) × (n ≤ most)

-- a number of so many bytes in a range; for is the cause where it is out of it
abbrev pub FailsNumber : ℕ → ℕ → ℕ → WireWhy → Failure
FailsNumber size least most for = EitherFails (EndsWithin size) (IsRefused (λ n. n < 256 ^ size) (number size) (IsBetween least most) for)

-- a number in a range, and what stands behind it
abbrev pub FailsCounted : ℕ → ℕ → ℕ → (ℕ → Failure) → Failure
FailsCounted size least most Next = EitherFails (FailsNumber size least most Range) (FailsBehind (IsBetween least most) (number size) Next)

-- a byte that tells which of some forms follows, and what stands behind it
abbrev pub FailsTagged : ℕ → ℕ → (ℕ → Failure) → Failure
FailsTagged least most Next = EitherFails (FailsNumber 1 least most Kind) (FailsBehind (IsBetween least most) (number 1) Next)

abbrev pub itself : List ℕ → List ℕ
itself t = t

-- so many bytes, of which a text is made that has to pass a test
abbrev pub FailsText : (List ℕ → Bool) → ℕ → Failure
FailsText test n = EitherFails (EndsWithin n) (IsRefused (λ t. length t ≡ n) itself (λ t. test t ≡ true) Text)

-- a byte that has to be this one, and what stands behind it
abbrev pub FailsByte : ℕ → Failure → Failure
FailsByte b Next = EitherFails (EitherFails (EndsWithin 1) (IsRefused (λ n. n < 256) (number 1) (λ n. n ≡ b) Magic)) (FailsBehind (λ n. n ≡ b) (number 1) (λ _. Next))

-- the next of so many items, of which those before stand as they may
abbrev pub FailsAmong : {X : Type 0} → ℕ → (List X → Type 0) → (X → List ℕ) → (List X → Failure) → Failure
FailsAmong n Are spelled Next = FailsBehind (λ xs. (length xs < n) × Are xs) (flat_map spelled) Next

-- an item that can't be read, or is whole and not above those before it
abbrev pub FailsOrLow : {X : Type 0} → Failure → (X → Type 0) → (X → List ℕ) → (X → Type 0) → Failure
FailsOrLow Fails Is spelled IsAbove = EitherFails Fails (IsRefused Is spelled IsAbove Order)

-- ---- values

-- a part of a value in which so many pairs and so many bytes of text may stand
pub record IsPart (pairs room : ℕ) (v : Val) : Type 0 where
  pub few : leaves v ≤ pairs + 1
  pub small : text_bytes v ≤ room
  pub parts : IsSpellable v

-- such a part: at its tag, within its number or its text, or within the first or the second part of a pair
pub data FailsPart : ℕ → ℕ → List ℕ → ℕ → WireWhy → Type 0 where
  at_tag : {pairs room place : ℕ} {bytes : List ℕ} {why : WireWhy} → FailsNumber 1 0 2 Kind bytes place why → FailsPart pairs room bytes place why
  at_pair : {room : ℕ} {bytes : List ℕ} → FailsPart 0 room (2 ∷ bytes) 0 Range
  in_number : {pairs room place : ℕ} {bytes : List ℕ} {why : WireWhy} → EndsWithin 8 bytes place why → FailsPart pairs room (0 ∷ bytes) (suc place) why
  in_text : {pairs room place : ℕ} {bytes : List ℕ} {why : WireWhy} → FailsCounted 2 0 room (FailsText is_utf8) bytes place why → FailsPart pairs room (1 ∷ bytes) (suc place) why
  in_first : {pairs room place : ℕ} {bytes : List ℕ} {why : WireWhy} → FailsPart pairs room bytes place why → FailsPart (suc pairs) room (2 ∷ bytes) (suc place) why
  in_second : {pairs room place : ℕ} {bytes : List ℕ} {why : WireWhy} (first : Val) → IsPart pairs room first → FailsPart (suc pairs - leaves first) (room - text_bytes first) bytes place why
      → FailsPart (suc pairs) room (2 ∷ (spelled_value first ++ bytes)) (suc (length (spelled_value first) + place)) why

-- a value: at most 7 pairs and 256 bytes of text
abbrev pub FailsValue : Failure
FailsValue = FailsPart 7 256

-- ---- sets

-- a token: a replica below the nodes, the number of its update, whether it is dead
abbrev pub FailsToken : ℕ → Failure
FailsToken nodes = FailsCounted 1 0 (nodes - 1) (λ _. FailsCounted 8 1 100000 (λ _. FailsNumber 1 0 1 Kind))

abbrev pub FailsRow : ℕ → Failure
FailsRow nodes = EitherFails FailsValue (FailsBehind IsSourceValue spelled_value (λ _. FailsToken nodes))

-- version 1: so many rows, ascending
abbrev pub FailsSingleRows : ℕ → Failure
FailsSingleRows nodes = FailsCounted 4 0 65536 (λ n. FailsAmong n (AreRows nodes) spelled_row (λ before. FailsOrLow (FailsRow nodes) (IsRow nodes) spelled_row (λ r. IsAscending (before ++ r ∷ []))))

abbrev pub spelled_mark : Tok × Bool → List ℕ
spelled_mark t = spelled_token t.0 ++ truth t.1

-- tokens of one value, ascending
pub record AreTokens (nodes : ℕ) (tokens : List (Tok × Bool)) : Type 0 where
  pub ascending : is_sorted tok_cmp tokens ≡ true
  pub each : AllByRecursion (IsToken nodes) tokens

-- a value with its tokens
pub record IsGroup (nodes : ℕ) (group : Group) : Type 0 where
  pub value : IsSourceValue group.value
  pub some : 1 ≤ length group.tokens
  pub tokens : AreTokens nodes group.tokens

abbrev pub values_of : List Group → List Val
values_of groups = map (λ group. group.value) groups

abbrev pub tokens_of : List Group → List (Tok × Bool)
tokens_of groups = flat_map (λ group. group.tokens) groups

-- values with their tokens: the values ascend, and there are at most 65,536 tokens in all
pub record AreGroups (nodes : ℕ) (groups : List Group) : Type 0 where
  pub ascending : AreAscending (values_of groups)
  pub few : length (tokens_of groups) ≤ 65536
  pub each : AllByRecursion (IsGroup nodes) groups

-- the tokens of a value, with which the set has at most 65,536
abbrev pub FailsTokens : ℕ → ℕ → Failure
FailsTokens nodes before =
    FailsCounted 4 1 (65536 - before) (λ n. FailsAmong n (AreTokens nodes) spelled_mark (λ tokens. FailsOrLow (FailsToken nodes) (IsToken nodes) spelled_mark (λ t. is_sorted tok_cmp (tokens ++ t ∷ []) ≡ true)))

abbrev pub IsAboveAll : List Group → Val → Type 0
IsAboveAll before v = AreAscending (values_of before ++ v ∷ [])

-- the value behind these, and its tokens
abbrev pub FailsGroup : ℕ → List Group → Failure
FailsGroup nodes before =
    EitherFails (FailsOrLow FailsValue IsSourceValue spelled_value (IsAboveAll before)) (FailsBehind (λ v. IsSourceValue v × IsAboveAll before v) spelled_value (λ _. FailsTokens nodes (length (tokens_of before))))

-- version 2: so many values with their tokens
abbrev pub FailsGroups : ℕ → Failure
FailsGroups nodes = FailsCounted 4 0 65536 (λ n. FailsAmong n (AreGroups nodes) spelled_group (FailsGroup nodes))

abbrev pub FailsRows : ℕ → ℕ → Failure
FailsRows version nodes = EitherFails (FailsWhere (version ≡ 1) (FailsSingleRows nodes)) (FailsWhere (version ≡ 2) (FailsGroups nodes))

-- ---- sources

-- the elements of a grow-only set, ascending
abbrev pub FailsElements : Failure
FailsElements = FailsCounted 4 0 65536 (λ n. FailsAmong n AreElements spelled_value (λ before. FailsOrLow FailsValue IsSourceValue spelled_value (λ v. AreAscending (before ++ v ∷ []))))

-- so many counts, each at most this
abbrev pub FailsCounts : ℕ → ℕ → Failure
FailsCounts most n = FailsAmong n (AreAtMost most) (number 8) (λ _. FailsNumber 8 0 most Range)

-- whether there is a number, and the number
abbrev pub FailsTop : Failure
FailsTop = FailsTagged 0 1 (λ present. FailsWhere (present ≡ 1) (EndsWithin 8))

-- what a source of the kind with this number holds
abbrev pub FailsState : ℕ → ℕ → ℕ → Failure
FailsState version nodes kind =
    EitherFails (FailsWhere (kind ≡ 1) (FailsRows version nodes)) (EitherFails (FailsWhere (kind ≡ 2) FailsElements) (EitherFails (FailsWhere (kind ≡ 3) (FailsCounts count_max nodes)) (FailsWhere (kind ≡ 4) FailsTop)))

abbrev pub spelled_name : List ℕ → List ℕ
spelled_name name = number 1 (length name) ++ name

-- a name, the kind, and what the source holds
abbrev pub FailsSource : ℕ → ℕ → Failure
FailsSource version nodes =
    EitherFails (FailsCounted 1 1 32 (FailsText is_name))
    (FailsBehind (λ name. is_name name ≡ true) spelled_name (λ _. FailsTagged 1 4 (FailsState version nodes)))

abbrev pub FailsSources : ℕ → ℕ → Failure
FailsSources version nodes = FailsCounted 1 0 64 (λ n. FailsAmong n (AllByRecursion (IsSent nodes)) (spelled_source_in version) (λ _. FailsSource version nodes))

-- ---- messages

-- the counts of some nodes
pub record AreCounts (counts : List ℕ) : Type 0 where
  pub nodes : IsNodes (length counts)
  pub each : AreAtMost 100000 counts

abbrev pub spelled_all_counts : List ℕ → List ℕ
spelled_all_counts counts = number 1 (length counts) ++ spelled_counts counts

-- the counts, with their number before them, and the sources
abbrev pub FailsBody : ℕ → Failure
FailsBody version = EitherFails (FailsCounted 1 1 8 (FailsCounts 100000)) (FailsBehind AreCounts spelled_all_counts (λ counts. FailsSources version (length counts)))

abbrev pub FailsVersion : Failure
FailsVersion = EitherFails (EndsWithin 1) (IsRefused (λ n. n < 256) (number 1) (λ n. is_version n ≡ true) Magic)

-- `LASP` and the version
abbrev pub FailsBeginning : Failure
FailsBeginning = FailsByte 76 (FailsByte 65 (FailsByte 83 (FailsByte 80 FailsVersion)))

abbrev pub beginning : ℕ → List ℕ
beginning version = codes "LASP" ++ version ∷ []

-- a byte stands behind a message
pub record HasRest (bytes : List ℕ) (place : ℕ) (why : WireWhy) : Type 0 where
  pub message : HasMessageBefore bytes place
  pub cause : why ≡ Rest

-- what can't be read stands in the beginning, behind it, or behind a message
pub data IsStuck (bytes : List ℕ) (place : ℕ) (why : WireWhy) : Type 0 where
  in_beginning : FailsBeginning bytes place why → IsStuck bytes place why
  in_body : FailsBehind (λ version. is_version version ≡ true) beginning FailsBody bytes place why → IsStuck bytes place why
  behind_message : HasRest bytes place why → IsStuck bytes place why
