-- What holds of every host lasts under each message that is not refused.
use Rattle.sam_crossing.proofs.Common.{◌≡◌, ℕ, false, ◌==◌, arith, slot-map, slot-put_same, slot-put_other, slot-free_same, slot-free_other, PlainFile, PlainFiles, put_file, reply_fits, PlainHost, reply_to, Tmesg, OpenAnnounced, AllOpenAnnounced, IsSteady}
use Rattle.sam_host.proofs.Keeping.{IsKept, reply_keeps}
use Rattle.sam_crossing.proofs.Accepting.{Synced, Accepted, Ready}

-- ## Open files were announced

announced-put : (fs : PlainFiles) (g : ℕ) (x : PlainFile) → AllOpenAnnounced fs → ((g == 0) ≡ false → OpenAnnounced x) → AllOpenAnnounced (put_file fs g x)
announced-put fs g x all here f = grind (arith, slot-put_same, slot-put_other)

announced_kept : IsKept AllOpenAnnounced
announced_kept = grind (arith, slot-put_same, slot-put_other, slot-map, slot-free_same, slot-free_other)

-- a host that is ready stays so, unless it is done
pub steady_reply : (h : PlainHost) (m : Tmesg) → Ready h → Accepted h m → Synced h m → IsSteady (reply_to h m).0
steady_reply h m r a s = grind (arith, announced-put, reply_keeps, announced_kept, reply_fits)
