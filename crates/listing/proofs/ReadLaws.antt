-- Laws of the two texts read, which the calls above cite from here.
pub use Rattle.json_patch.proofs.ReadLaws.{BothRead, document_refused, patch_refused, both_read}
