use Rattle.lasp_site.proofs.ending.tell.tell_site_refusal.Goals as goal

pub returns-in-NotLocal-clause-told : goal.returns-in-NotLocal-clause-told
returns-in-NotLocal-clause-told g c = rw (c.in-NotLocal.is, ← c.format.ensures.text, ← c.as_bytes.ensures.value) c.tell.ensures.told

pub returns-in-FileTooLarge-clause-told : goal.returns-in-FileTooLarge-clause-told
returns-in-FileTooLarge-clause-told g c =
    rw (c.in-FileTooLarge.is, ← c.word.ensures, ← c.format-in-FileTooLarge.ensures.text, ← c.as_bytes-in-FileTooLarge.ensures.value, ← c.as_str.ensures.exact, ← c.as_bytes-in-FileTooLarge-2.ensures.value)
    c.tell-in-FileTooLarge.ensures.told

pub returns-in-UpdatesFull-clause-told : goal.returns-in-UpdatesFull-clause-told
returns-in-UpdatesFull-clause-told g c =
    rw (c.in-UpdatesFull.is, ← c.format-in-UpdatesFull.ensures.text, ← c.as_bytes-in-UpdatesFull.ensures.value, ← c.format-in-UpdatesFull-2.ensures.text, ← c.as_bytes-in-UpdatesFull-2.ensures.value)
    c.tell-in-UpdatesFull.ensures.told
