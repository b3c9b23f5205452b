use Rattle.std.proofs.Common.{◌≡◌, ◌≤◌, ◌++◌, drop}
use Rattle.std.specs.Prelude.{string_bytes}
use Rattle.model_journal.specs.Journal as journal
use Rattle.model_core.specs.Trace.{entry_lines, journal_lines}
use Rattle.lasp_core.proofs.journal.push_journal.Given as goal

abbrev pub invariant-loop-i : goal.invariant-loop-i
invariant-loop-i l = record {
  few : l.updates ≤ l.i;
  pushed : string_bytes l.text ++ entry_lines (journal.graph l.core.frame l.core.entries) l.p l.i l.updates (drop l.i l.core.entries)
      ≡ string_bytes l.fn.text ++ journal_lines (journal.graph l.core.frame l.core.entries) l.p l.core.entries;
}
