-- The file that each kind of message and frame names.
use Rattle.std.specs.Prelude.{ℕ, Option, Some, None}
use Rattle.sam_mesg.specs.declared.tmesg.Tmesg.{Tmesg}
use Rattle.sam_mesg.specs.declared.tmesg.Tmesg.TheVariants.{Tversion, Tstartcmdfile, Tcheck, Trequest, Torigin, Tstartfile, Tworkfile, Ttype, Tcut, Tpaste, Tsnarf, Tstartnewfile, Twrite, Tclose, Tlook, Tsearch, Tsend, Tdclick, Tstartsnarf, Tsetsnarf, Tack, Texit}
use Rattle.sam_mesg.specs.declared.hmesg.Hmesg.{Hmesg}
use Rattle.sam_mesg.specs.declared.hmesg.Hmesg.TheVariants.{Hversion, Hbindname, Hcurrent, Hnewname, Hmovname, Hgrow, Hcheck, Hunlock, Hdata, Horigin, Hunlockfile, Hsetdot, Hgrowdata, Hmoveto, Hclean, Hdirty, Hcut, Hsetpat, Hdelname, Hclose, Hsetsnarf, Hsnarflen, Hack, Hexit}

abbrev pub file_of_t : Tmesg → Option ℕ
file_of_t (Tversion v) = None
file_of_t Tstartcmdfile = None
file_of_t (Tcheck f) = Some f
file_of_t (Trequest f p n) = Some f
file_of_t (Torigin f p n) = Some f
file_of_t (Tstartfile f) = Some f
file_of_t (Tworkfile f p q) = Some f
file_of_t (Ttype f p s) = Some f
file_of_t (Tcut f p q) = Some f
file_of_t (Tpaste f p) = Some f
file_of_t (Tsnarf f p q) = Some f
file_of_t Tstartnewfile = None
file_of_t (Twrite f) = Some f
file_of_t (Tclose f) = Some f
file_of_t (Tlook f p q) = Some f
file_of_t (Tsearch f p q) = Some f
file_of_t (Tsend f p q) = Some f
file_of_t (Tdclick f p) = Some f
file_of_t Tstartsnarf = None
file_of_t (Tsetsnarf s) = None
file_of_t Tack = None
file_of_t Texit = None

abbrev pub file_of_h : Hmesg → Option ℕ
file_of_h (Hversion v) = None
file_of_h (Hbindname f) = Some f
file_of_h (Hcurrent f) = Some f
file_of_h (Hnewname f) = Some f
file_of_h (Hmovname f s) = Some f
file_of_h (Hgrow f p n) = Some f
file_of_h (Hcheck f) = Some f
file_of_h Hunlock = None
file_of_h (Hdata f p s) = Some f
file_of_h (Horigin f p) = Some f
file_of_h (Hunlockfile f) = Some f
file_of_h (Hsetdot f p q) = Some f
file_of_h (Hgrowdata f p s) = Some f
file_of_h (Hmoveto f p) = Some f
file_of_h (Hclean f) = Some f
file_of_h (Hdirty f) = Some f
file_of_h (Hcut f p n) = Some f
file_of_h (Hsetpat s) = None
file_of_h (Hdelname f) = Some f
file_of_h (Hclose f) = Some f
file_of_h (Hsetsnarf s) = None
file_of_h (Hsnarflen n) = None
file_of_h Hack = None
file_of_h Hexit = None
