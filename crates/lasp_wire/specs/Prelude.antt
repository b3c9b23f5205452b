-- The words that the contracts of this library are written in.
pub use Rattle.std.specs.Int.{w16, w32, w64, w8}
pub use Rattle.std.specs.List.{AllByRecursion}
pub use Rattle.std.specs.Option.{option_map}
pub use Rattle.std.specs.Str.{is_utf8}
pub use Rattle.model_values.specs.Name.{is_name}
pub use Rattle.model_values.specs.Row.{row_cmp}
pub use Rattle.model_values.specs.Size.{text_bytes}
pub use Rattle.model_values.specs.Value.{val_cmp}
pub use Rattle.model_sets.specs.Rows.{IsAscending}
pub use Rattle.model_sets.specs.Values.{AreAscending}
pub use Rattle.model_states.specs.Counts.{count_max, zeros}
pub use Rattle.model_graph.specs.Spelling.{number, signed_number, spelled, spelled_content, spelled_counts, spelled_rows, spelled_source, spelled_token, spelled_top, spelled_value, spelled_values, truth}
pub use Rattle.lasp_value.specs.Token.{tok_of}
pub use Rattle.lasp_value.specs.Value.{val_of}
pub use Rattle.model_wire.specs.Lawful.{AreAtMost, IsMessage, IsSpellable, IsSpelledSo}
pub use Rattle.model_wire.specs.Message.{after_group, any_source_at, body_at, counts_at, decoded, decoded_from, elements_at, group_at, grouped_rows_at, groups_at, held_at, held_behind, held_counts, held_elements, held_set, held_top, limited_at, message_at, name_at, nodes_at, nothing_more, nothing_of_sources, numbers_at, read_message, row_after_at, row_of, rows_at, rows_of, rows_of_group, single_rows_at, source_at, sources_at, token_after_at, tokens_at, top_at, update_limit, value_after_at, version_at}
pub use Rattle.model_wire.specs.Reader.{between, bytes_at, kind_at, list_at, made, magic_at, number_at, ranged_at}
pub use Rattle.model_wire.specs.Stuck.{IsStuck}
pub use Rattle.model_wire.specs.Value.{is_above, latest, mark_cmp, part, part_at, row_at, signed_at, text_at, token_at, value_at}
pub use Rattle.model_wire.specs.declared.wire_why.WireWhy.{WireWhy}
pub use Rattle.lasp_logset.specs.Weights.{IsBounded}
pub use Rattle.lasp_state.specs.State.{content_of}
pub use Rattle.lasp_wire.specs.Decoded.{IsStuckAs, Refuses, Tells, parts_of}
pub use Rattle.lasp_wire.specs.Length.{head_len, row_len}
pub use Rattle.lasp_wire.specs.Placed.{IsReadAt, placed_in}
pub use Rattle.lasp_wire.specs.Read.{Fails, Gives, before_of, group_of, last_of, last_value_of, mark_of}
pub use Rattle.lasp_wire.specs.Sent.{held_in, held_of, kind_of, message, sent, sent_of, with_source}
pub use Rattle.lasp_wire.specs.Written.{AreShortRows, AreShortValues, IsShort, IsShortSource, IsShortState, is_first, run, spelled_after, spelled_head, spelled_mark, values_after}
