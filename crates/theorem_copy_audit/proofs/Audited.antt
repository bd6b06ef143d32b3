-- The proof of `CopyAuditForAll`. Assumes nothing.
use Rattle.audit.proofs.Audited.{accepted_audited}
use Rattle.theorem_copy_audit.specs.Theorems.{CopyAuditForAll}
use Rattle.copy_checks.specs.Copy.{lent_as_copy}
use Rattle.theorem_copy_audit.proofs.Sound.{accepted_sound, sound_accepted}
use Rattle.theorem_copy_audit.proofs.HeldRead.{read_done_lem, read_hash}
use Rattle.theorem_copy_audit.proofs.Registers.{all_known, lent_sound, lent_signed, sound_register}
use Rattle.theorem_copy_audit.proofs.Images.{whole_belongs, belongs_whole}

pub copy_audit_lem : CopyAuditForAll
copy_audit_lem F =
    record {
      exactly = λ c. (accepted_sound F c, sound_accepted F c);
      reads = λ c a e k below h. read_done_lem F c (accepted_sound F c a) e k below h;
      hashes = λ c a e k below h. read_hash F c (accepted_sound F c a) e k below h;
      register = λ r. (
        λ e. let a = accepted_audited F r e in (sound_accepted F (lent_as_copy r) (lent_sound F r a), (all_known F r a, lent_signed F r a)),
        λ p. sound_register F r (accepted_sound F (lent_as_copy r) p.0) p.1.0 p.1.1,
      );
      belongs = λ hf c l. (λ p. whole_belongs F hf c l p.0 p.1, λ q. belongs_whole F hf c q.0 q.1.0 q.1.1);
    }
