use Rattle.sam_host.proofs.SoundLaws.{marks_keep_sound}
use Rattle.sam_host.proofs.laws.marks_keep_hosts_sound.Goals as goal

pub returns : goal.returns
returns c = marks_keep_sound
