-- What the proofs of changes of a terminal's files rest on.
use Rattle.sam_term.proofs.Grows.{grown_facts}
use Rattle.sam_term.proofs.Acts.{first_is}
use Rattle.sam_term.proofs.LockTotals.{locks-put, locks-free, locks-among, locks-freed, locked-counted}
use Rattle.sam_term.proofs.Common.{slot-put_same, slot-put_other, slot-free_same, slot-free_other, slot-map, FitsUnsent, IsShort, took_bindname, took_close, took_data, ℕ}

-- what the invariant rests on where a file is changed, or all are
pub ruleset file_puts = (slot-put_same, slot-put_other, slot-free_same, slot-free_other, locks-put, locks-free)

-- the same, where a lock is freed
pub ruleset lock_freed = (file_puts, locks-among)

-- what the wait for all locks rests on
pub ruleset waits_facts = (locked-counted)

-- what a session that is over rests on
pub ruleset exit_facts = (slot-map, locks-freed)

-- opens what holds of the unsent runes, and what frames do at a file
unfoldable pub unsent_opened : ℕ
unfolding FitsUnsent IsShort took_bindname took_close took_data
unsent_opened = 0

-- what a change of a rasp rests on
pub ruleset changed_facts = (file_puts, grown_facts)

-- the same, of the oldest event
pub ruleset typed_in_facts = (first_is, file_puts, grown_facts)
