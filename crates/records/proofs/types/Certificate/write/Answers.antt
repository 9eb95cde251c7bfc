use Rattle.std.proofs.Common.{◌≡◌, ◌<◌, ◌++◌, get_or, w8, Fits, refl, ap, ◌∙◌, rules}
use Rattle.std.proofs.ByRecursion.{All-from_get_or}
use Rattle.records.specs.Records.{certificate_bytes, certificate_in}
use Rattle.records.specs.Inverse.{CertificateFits}
use Rattle.records.specs.RecordLaws.{certificates_inverse}
use Rattle.records.proofs.types.Certificate.write.Goals as goal

pub returns : goal.returns
unfolding certificate_bytes
returns c =
    let r = c.args.self.now in
    let defined : c.copy_from_slice.new.self ++ (c.copy_from_slice-2.new.self ++ (c.copy_from_slice-3.new.self ++ c.copy_from_slice-4.new.self)) ≡ certificate_bytes r =
    rw (c.copy_from_slice.ensures.after, c.copy_from_slice-2.ensures.after, c.copy_from_slice-3.ensures.after, c.copy_from_slice-4.ensures.after, c.write.ensures.as_defined) refl in
    let fits : CertificateFits r =
    record {
      issuer = (search rules, All-from_get_or (λ d. d < 256) r.issuer 0 (λ k l. let f : Fits w8 (get_or r.issuer k 0) = search rules in f.fits));
      subject = (search rules, All-from_get_or (λ d. d < 256) r.subject 0 (λ k l. let f : Fits w8 (get_or r.subject k 0) = search rules in f.fits));
      device = (search rules, All-from_get_or (λ d. d < 256) r.device 0 (λ k l. let f : Fits w8 (get_or r.device k 0) = search rules in f.fits));
      scope = c.write.ensures.fits;
    } in
    record { as_defined = defined; reads_back = λ well. ap certificate_in defined ∙ certificates_inverse.what_is_written_reads_back r fits well }
