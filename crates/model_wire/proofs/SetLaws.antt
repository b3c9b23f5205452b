-- The rows of a set in either version, and the elements of a grow-only set, beside their spellings.
use Rattle.std.proofs.Common.{ℕ, ◌≤◌, Bool, List, length, Option, None, refl, sym, ap, ◌∙◌, arith}
use Rattle.std.specs.Int.{w32, to_be_bytes}
use Rattle.std.specs.FinMap.Entries.{is_sorted}
use Rattle.std.proofs.lemmas.List.{map-id}
use Rattle.model_values.specs.Value.{Val, val_cmp, val_total}
use Rattle.model_values.specs.Row.{Row, Key, row_cmp, key_cmp, key_total}
use Rattle.model_graph.specs.Spelling.{spelled_value, spelled_values}
use Rattle.model_wire.specs.declared.wire_why.WireWhy.TheVariants as why
use Rattle.model_wire.specs.Reader.{list_at, ranged_at}
use Rattle.model_wire.specs.Value.{value_at, row_at, is_above, latest}
use Rattle.model_wire.specs.Message.{row_after_at, single_rows_at, value_after_at, elements_at}
use Rattle.model_wire.specs.Spelling.{spelled_row, spelled_single_rows}
use Rattle.model_wire.specs.Lawful.{IsSourceValue, IsNodes, IsRow, AreRows, AreElements}
use Rattle.model_wire.proofs.Codecs.{IsCodec, wide32, HasTested, tested_codec, HasCounted, counted_codec, has_codec, AllHave, HasMany, spell_all, list_codec}
use Rattle.model_wire.proofs.ValueLaws.{HasRange, ranged_codec, within_range, in_range, value_codec}
use Rattle.model_wire.proofs.RowLaws.{row_codec}
use Rattle.model_wire.proofs.OrderLaws.{rise_sorted, rise_each, sorted_rise}

-- ---- version 1

abbrev pub RowsRise : ℕ → Option Row → List Row → Type 0
RowsRise nodes before rows = AllHave (Option Row) Row (λ s. HasTested Row (IsRow nodes) (is_above row_cmp s)) latest before rows

abbrev RowsHad : ℕ → List Row → Type 0
RowsHad nodes = HasCounted ℕ (List Row) (HasRange 4294967296 0 65536) length (λ n. HasMany (Option Row) Row (λ s. HasTested Row (IsRow nodes) (is_above row_cmp s)) latest n None)

abbrev pub same_row : Row → Row
same_row r = r

pub rows_known : (nodes : ℕ) (before : Option Row) (rows : List Row) → length rows ≤ 65536 → RowsRise nodes before rows → AreRows nodes rows
rows_known nodes before rows few rise = record {
  ascending = ap (is_sorted key_cmp) (sym (map-id rows)) ∙ rise_sorted Row Key Bool same_row key_cmp key_total (IsRow nodes) before rows rise;
  few = few;
  each = rise_each Row Key Bool same_row key_cmp key_total (IsRow nodes) before rows rise;
}

pub rows_rise : (nodes : ℕ) (rows : List Row) → AreRows nodes rows → RowsRise nodes None rows
rows_rise nodes rows h = sorted_rise Row Key Bool same_row key_cmp key_total (IsRow nodes) rows (ap (is_sorted key_cmp) (map-id rows) ∙ h.ascending) h.each

pub single_rows_codec : (nodes : ℕ) → IsNodes nodes → IsCodec (List Row) (AreRows nodes) spelled_single_rows (single_rows_at nodes)
unfolding single_rows_at
single_rows_codec nodes n =
    has_codec (List Row) (RowsHad nodes) (AreRows nodes) spelled_single_rows (single_rows_at nodes)
    (counted_codec ℕ (List Row) (HasRange 4294967296 0 65536) (λ m. HasMany (Option Row) Row (λ s. HasTested Row (IsRow nodes) (is_above row_cmp s)) latest m None) (to_be_bytes w32) (spell_all Row spelled_row) length
    (ranged_at w32 0 65536) (λ m. list_at (row_after_at nodes) latest m None) (ranged_codec w32 4294967296 wide32 0 65536)
    (λ m _. list_codec (Option Row) Row (λ s. HasTested Row (IsRow nodes) (is_above row_cmp s)) spelled_row (row_after_at nodes) latest
    (λ s. tested_codec Row (IsRow nodes) spelled_row (row_at nodes) (is_above row_cmp s) why.Order (row_codec nodes n)) m None)
    (λ m rows _ h. h.0))
    (λ rows h. rows_known nodes None rows (within_range 0 65536 (length rows) h.0.1).1 h.1.1)
    (λ rows h. ((omega (arith, h.few), in_range 0 65536 (length rows) (omega arith) h.few), (refl, rows_rise nodes rows h)))

-- ---- the elements of a grow-only set

abbrev ElementsHad : List Val → Type 0
ElementsHad = HasCounted ℕ (List Val) (HasRange 4294967296 0 65536) length (λ n. HasMany (Option Val) Val (λ s. HasTested Val IsSourceValue (is_above val_cmp s)) latest n None)

abbrev pub entry : Val → Val × Unit {0}
entry v = (v, tt)

pub elements_codec : IsCodec (List Val) AreElements spelled_values elements_at
unfolding elements_at
elements_codec =
    has_codec (List Val) ElementsHad AreElements spelled_values elements_at
    (counted_codec ℕ (List Val) (HasRange 4294967296 0 65536) (λ m. HasMany (Option Val) Val (λ s. HasTested Val IsSourceValue (is_above val_cmp s)) latest m None) (to_be_bytes w32) (spell_all Val spelled_value) length
    (ranged_at w32 0 65536) (λ m. list_at value_after_at latest m None) (ranged_codec w32 4294967296 wide32 0 65536)
    (λ m _. list_codec (Option Val) Val (λ s. HasTested Val IsSourceValue (is_above val_cmp s)) spelled_value value_after_at latest
    (λ s. tested_codec Val IsSourceValue spelled_value value_at (is_above val_cmp s) why.Order value_codec) m None)
    (λ m values _ h. h.0))
    (λ values h. record {
      ascending = rise_sorted Val Val (Unit {0}) entry val_cmp val_total IsSourceValue None values h.1.1;
      few = (within_range 0 65536 (length values) h.0.1).1;
      each = rise_each Val Val (Unit {0}) entry val_cmp val_total IsSourceValue None values h.1.1;
    })
    (λ values h. ((omega (arith, h.few), in_range 0 65536 (length values) (omega arith) h.few), (refl, sorted_rise Val Val (Unit {0}) entry val_cmp val_total IsSourceValue values h.ascending h.each)))
