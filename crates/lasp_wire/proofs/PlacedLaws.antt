-- What a reader reads at a place of bytes, and where what it leaves begins.
use Rattle.std.proofs.Common.{◌≡◌, ℕ, zero, suc, ◌+◌, ◌-◌, ◌≤◌, ◌<◌, Bool, true, ltb, eqb, List, [], ◌++◌, length, take, drop, Result, Ok, Err, refl, sym, ap, subst, ◌∙◌, arith}
use Rattle.std.specs.List.{AllByRecursion}
use Rattle.std.specs.Int.{Width, w8, byte_len, from_be_bytes}
use Rattle.std.proofs.lemmas.Bool.{ltb-false, eqb-true}
use Rattle.std.proofs.lemmas.List.{drop-drop, drop_at, length-drop, length-append}
use Rattle.model_graph.specs.Chain.{◌>>=◌}
use Rattle.model_states.specs.Counts.{zeros}
use Rattle.model_states.proofs.CountLaws.{length-zeros}
use Rattle.model_graph.specs.Message.{Sent}
use Rattle.model_wire.specs.declared.wire_why.WireWhy.{WireWhy}
use Rattle.model_wire.specs.declared.wire_why.WireWhy.TheVariants as why
use Rattle.model_wire.specs.Reader.{Reading, bytes_at, if_passes, tested, remade, number_at, magic_at}
use Rattle.model_wire.specs.Message.{sources_at}
use Rattle.model_wire.specs.Lawful.{IsNodes, AreAtMost, IsSent, IsMessage}
use Rattle.model_wire.proofs.Codecs.{IsBytes, passed, not_short, test_passed, behind_drop}
use Rattle.model_wire.proofs.MessageLaws.{AreSources, spelled_sources, sources_codec}
use Rattle.model_wire.proofs.Within.{Inside}
use Rattle.lasp_wire.specs.declared.refused.ReadError.{ReadError}
use Rattle.lasp_wire.specs.declared.refused.ReadError.TheVariants as error
use Rattle.lasp_wire.specs.Read.{Fails}
use Rattle.lasp_wire.specs.Placed.{RefusesAt, placed_in}
use Rattle.lasp_wire.specs.Sent.{message}

-- ---- refusals

-- a refusal of what stands at a place is one of the whole bytes
pub refused-at : (Y : Type 0) (bytes : List ℕ) (place : ℕ) (e : ReadError) (read : Reading Y) → Fails e read → Inside (length (drop place bytes)) read → RefusesAt bytes (placed_in (length bytes) e) read
refused-at Y bytes place error.Memory read fails inside = tt
refused-at Y bytes place (error.At left why) read fails inside =
    let few : left ≤ length (drop place bytes) = subst (Inside (length (drop place bytes))) fails inside in
    let small : left ≤ length bytes = omega (arith, few, length-drop place bytes) in
    let same : left ≡ length bytes - (length bytes - left) = omega (arith, small) in
    (fails ∙ ap (λ (n : ℕ). Err (n, why)) same, omega arith)

-- ---- numbers

-- where a number was read, what stands behind it stands behind its width
number-behind : (w : Width) (test : ℕ → Bool) (c : WireWhy) (bytes : List ℕ) (x : ℕ × List ℕ) → tested (number_at w) test c bytes ≡ Ok x → (x.1 ≡ drop (byte_len w) bytes) × (byte_len w ≤ length bytes)
number-behind w test c bytes x e =
    let t = passed (number_at w bytes) (if_passes test (length bytes, c)) x e in
    let g = test_passed (test t.value.0) (length bytes, c) t.value x t.then in
    let p = passed (bytes_at (byte_len w) bytes) (remade (from_be_bytes w)) t.value t.first in
    let s = not_short (ltb (length bytes) (byte_len w)) (length bytes, why.Short) (take (byte_len w) bytes, drop (byte_len w) bytes) p.value p.first in
    let one : (from_be_bytes w p.value.0, p.value.1) ≡ t.value = cc in
    (sym (ap (λ (q : ℕ × List ℕ). q.1) g.1) ∙ sym (ap (λ (q : ℕ × List ℕ). q.1) one) ∙ sym (ap (λ (q : List ℕ × List ℕ). q.1) s.1), ltb-false _ _ s.0)

pub number-at : (w : Width) (test : ℕ → Bool) (c : WireWhy) (bytes : List ℕ) (place n : ℕ) (rest : List ℕ) → place ≤ length bytes → tested (number_at w) test c (drop place bytes) ≡ Ok (n, rest)
    → (tested (number_at w) test c (drop place bytes) ≡ Ok (n, drop (place + byte_len w) bytes)) × (place + byte_len w ≤ length bytes)
number-at w test c bytes place n rest within e =
    let b = number-behind w test c (drop place bytes) (n, rest) e in
    (e ∙ ap (λ (r : List ℕ). Ok (n, r)) (b.0 ∙ drop-drop (byte_len w) place bytes), omega (arith, within, b.1, length-drop place bytes))

-- a byte that had to be a given one is it
pub magic-at : (b : ℕ) (bytes : List ℕ) (place n : ℕ) (rest : List ℕ) → place ≤ length bytes → magic_at b (drop place bytes) ≡ Ok (n, rest) → (magic_at b (drop place bytes) ≡ Ok (b, drop (place + 1) bytes)) × (place + 1 ≤ length bytes)
magic-at b bytes place n rest within e =
    let test = λ (k : ℕ). eqb k b in
    let t = passed (number_at w8 (drop place bytes)) (if_passes test (length (drop place bytes), why.Magic)) (n, rest) e in
    let g = test_passed (test t.value.0) (length (drop place bytes), why.Magic) t.value (n, rest) t.then in
    let same : n ≡ b = sym (ap (λ (q : ℕ × List ℕ). q.0) g.1) ∙ eqb-true t.value.0 b g.0 in
    let r = number-at w8 test why.Magic bytes place n rest within e in
    (r.0 ∙ ap (λ (k : ℕ). Ok (k, drop (place + 1) bytes)) same, r.1)

-- ---- sources

pub record AreSourcesAt (bytes : List ℕ) (place nodes : ℕ) (sources : List Sent) (rest : List ℕ) : Type 0 where
  pub read : sources_at 2 nodes (drop place bytes) ≡ Ok (sources, drop (length bytes - length rest) bytes)
  pub fewer : length rest ≤ length bytes
  pub lawful : AreSources nodes sources

pub sources-at : (bytes : List ℕ) (place nodes : ℕ) (sources : List Sent) (rest : List ℕ) → IsNodes nodes → IsBytes bytes → place ≤ length bytes → sources_at 2 nodes (drop place bytes) ≡ Ok (sources, rest)
    → AreSourcesAt bytes place nodes sources rest
sources-at bytes place nodes sources rest n fits within e =
    let t = (sources_codec 2 nodes n).took (drop place bytes) (sources, rest) (behind_drop place bytes fits) e in
    let text = spelled_sources 2 sources in
    let long : length (drop place bytes) ≡ length text + length rest = ap length t.0.parts ∙ length-append text rest in
    let few : length rest ≤ length bytes = omega (arith, long, length-drop place bytes) in
    let behind : length bytes - length rest ≡ place + length text = omega (arith, long, length-drop place bytes, within) in
    let same : drop (length bytes - length rest) bytes ≡ rest =
    ap (λ (k : ℕ). drop k bytes) behind ∙ sym (drop-drop (length text) place bytes) ∙ ap (drop (length text)) t.0.parts ∙ drop_at text rest (length text) refl in
    record { read = e ∙ ap (λ (r : List ℕ). Ok (sources, r)) (sym same); fewer = few; lawful = t.1 }

zeros-most : (nodes : ℕ) → AreAtMost 100000 (zeros nodes)
zeros-most zero = tt
zeros-most (suc nodes) = (omega arith, zeros-most nodes)

-- sources with zeros for counts are a message
pub zeros-message : (nodes : ℕ) (sources : List Sent) → IsNodes nodes → AreSources nodes sources → IsMessage (message (zeros nodes) sources)
zeros-message nodes sources n h = record {
  nodes = subst IsNodes (sym (length-zeros nodes)) n;
  counts = zeros-most nodes;
  few = h.0;
  sources = subst (λ (k : ℕ). AllByRecursion (IsSent k) sources) (sym (length-zeros nodes)) h.1;
}
