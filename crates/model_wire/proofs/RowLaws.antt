-- Tokens and rows beside their spellings.
use Rattle.std.proofs.Common.{◌≡◌, ℕ, zero, suc, ◌-◌, ◌≤◌, Bool, true, false, cond, eqb, List, ◌++◌, refl, ap, ◌∙◌, append_assoc, arith}
use Rattle.std.specs.Int.{w8, w64, to_be_bytes}
use Rattle.model_values.specs.Value.{Val}
use Rattle.model_values.specs.Token.{Tok, single, both}
use Rattle.model_values.specs.Row.{Row}
use Rattle.model_graph.specs.Spelling.{number, truth, spelled_value, spelled_token}
use Rattle.model_wire.specs.Reader.{both_at, ranged_at, kind_at}
use Rattle.model_wire.specs.Value.{value_at, token_parts_at, token_made, token_at, row_made, row_at}
use Rattle.model_wire.specs.Spelling.{spelled_row}
use Rattle.model_wire.specs.Lawful.{IsSourceValue, IsNodes, IsToken, IsRow}
use Rattle.model_wire.proofs.Codecs.{IsCodec, wide8, wide64, HasBoth, spell_both, both_codec, made_codec}
use Rattle.model_wire.proofs.ValueLaws.{HasRange, ranged_codec, kind_codec, within_range, in_range, value_codec}

abbrev Parts : Type 0
Parts = ℕ × (ℕ × ℕ)

abbrev HasParts : ℕ → Parts → Type 0
HasParts nodes = HasBoth ℕ (ℕ × ℕ) (HasRange 256 0 (nodes - 1)) (λ _. HasBoth ℕ ℕ (HasRange 18446744073709551616 1 100000) (λ _. HasRange 256 0 1))

abbrev spell_parts : Parts → List ℕ
spell_parts = spell_both ℕ (ℕ × ℕ) (to_be_bytes w8) (spell_both ℕ ℕ (to_be_bytes w64) (to_be_bytes w8))

parts_codec : (nodes : ℕ) → IsCodec Parts (HasParts nodes) spell_parts (token_parts_at nodes)
parts_codec nodes =
    both_codec ℕ (ℕ × ℕ) (HasRange 256 0 (nodes - 1)) (λ _. HasBoth ℕ ℕ (HasRange 18446744073709551616 1 100000) (λ _. HasRange 256 0 1)) (to_be_bytes w8) (spell_both ℕ ℕ (to_be_bytes w64) (to_be_bytes w8))
    (ranged_at w8 0 (nodes - 1)) (λ _. both_at (ranged_at w64 1 100000) (λ _. kind_at 0 1)) (ranged_codec w8 256 wide8 0 (nodes - 1))
    (λ _ _. both_codec ℕ ℕ (HasRange 18446744073709551616 1 100000) (λ _. HasRange 256 0 1) (to_be_bytes w64) (to_be_bytes w8) (ranged_at w64 1 100000) (λ _. kind_at 0 1)
    (ranged_codec w64 18446744073709551616 wide64 1 100000) (λ _ _. kind_codec 0 1))

-- a token with whether it is dead
abbrev pub spelled_mark : Tok × Bool → List ℕ
spelled_mark t = spelled_token t.0 ++ truth t.1

abbrev flag : Bool → ℕ
flag b = cond b 1 0

abbrev token_parts : Tok × Bool → Parts
token_parts (single q k, dead) = (q, (k, flag dead))
token_parts (both t s, dead) = (0, (0, 0))

truth_flag : (b : Bool) → truth b ≡ to_be_bytes w8 (flag b)
truth_flag true = refl
truth_flag false = refl

flag_back : (b : Bool) → eqb (flag b) 1 ≡ b
flag_back true = refl
flag_back false = refl

flag_few : (b : Bool) → flag b ≤ 1
flag_few true = omega arith
flag_few false = omega arith

back_flag : (n : ℕ) → n ≤ 1 → flag (eqb n 1) ≡ n
back_flag zero h = refl
back_flag (suc zero) h = refl
back_flag (suc (suc n)) h = absurd (omega arith)

token_has : (nodes : ℕ) → IsNodes nodes → (p : Parts) → HasParts nodes p → IsToken nodes (token_made p)
token_has nodes n p h =
    let q = within_range 0 (nodes - 1) p.0 h.0.1 in
    let k = within_range 1 100000 p.1.0 h.1.0.1 in
    (omega (arith, q.1, n.some), k.0, k.1)

token_spelled : (nodes : ℕ) (p : Parts) → HasParts nodes p → spell_parts p ≡ spelled_mark (token_made p)
token_spelled nodes p h =
    let d = within_range 0 1 p.1.1 h.1.1.1 in
    let dead : truth (eqb p.1.1 1) ≡ to_be_bytes w8 p.1.1 = truth_flag (eqb p.1.1 1) ∙ ap (to_be_bytes w8) (back_flag p.1.1 d.1) in
    rw (dead, append_assoc (number 1 p.0) (number 8 p.1.0) (to_be_bytes w8 p.1.1)) refl

token_has_parts : (nodes : ℕ) → IsNodes nodes → (t : Tok × Bool) → IsToken nodes t → HasParts nodes (token_parts t)
token_has_parts nodes n (single q k, dead) h = (
  (omega (arith, h.0, n.few), in_range 0 (nodes - 1) q (omega arith) (omega (arith, h.0))),
  ((omega (arith, h.2), in_range 1 100000 k h.1 h.2), (omega (arith, flag_few dead), in_range 0 1 (flag dead) (omega arith) (flag_few dead))),
)
token_has_parts nodes n (both t s, dead) h = absurd h

token_remakes : (nodes : ℕ) (t : Tok × Bool) → IsToken nodes t → token_made (token_parts t) ≡ t
token_remakes nodes (single q k, dead) h = ap (λ (b : Bool). (single q k, b)) (flag_back dead)
token_remakes nodes (both t s, dead) h = absurd h

pub token_codec : (nodes : ℕ) → IsNodes nodes → IsCodec (Tok × Bool) (IsToken nodes) spelled_mark (token_at nodes)
unfolding token_at
token_codec nodes n =
    made_codec Parts (Tok × Bool) (HasParts nodes) (IsToken nodes) spell_parts spelled_mark token_made token_parts (token_parts_at nodes) (parts_codec nodes)
    (record { has = token_has nodes n; spelled = token_spelled nodes; has_parts = token_has_parts nodes n; remakes = token_remakes nodes })

abbrev row_parts : Row → Val × (Tok × Bool)
row_parts r = (r.0.0, (r.0.1, r.1))

pub row_codec : (nodes : ℕ) → IsNodes nodes → IsCodec Row (IsRow nodes) spelled_row (row_at nodes)
unfolding row_at
row_codec nodes n =
    made_codec (Val × (Tok × Bool)) Row (HasBoth Val (Tok × Bool) IsSourceValue (λ _. IsToken nodes)) (IsRow nodes) (spell_both Val (Tok × Bool) spelled_value spelled_mark) spelled_row row_made row_parts
    (both_at value_at (λ _. token_at nodes))
    (both_codec Val (Tok × Bool) IsSourceValue (λ _. IsToken nodes) spelled_value spelled_mark value_at (λ _. token_at nodes) value_codec (λ _ _. token_codec nodes n))
    (record { has = λ p h. h; spelled = λ p h. refl; has_parts = λ r h. h; remakes = λ r h. refl })
