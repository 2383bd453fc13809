use Rattle.std.proofs.Common.{◌≡◌, ◌+◌, drop, length}
use Rattle.tb_base.specs.Records.{AllFit}
use Rattle.tb_release.specs.Edits.{edited_all}
use Rattle.tb_release.specs.Possible.{first_refusal}
use Rattle.tb_release.specs.Batches.{batch_length, batch_of}
use Rattle.tb_release.specs.Entries.{joined}
use Rattle.tb_release.specs.Drafts.{IsDraft, release_of}
use Rattle.tb_release.proofs.draft.Draft.make_all.Given as goal

-- what was made and what is left make all of it
abbrev pub invariant-loop-i : goal.invariant-loop-i
invariant-loop-i l = record {
  draft : IsDraft l.self;
  so_far : l.self.changes ≡ l.fn.self.changes;
  count : l.self.made ≡ l.fn.self.made + length l.batch.changes;
  so_many : batch_length l.batch ≡ l.i;
  fit : AllFit l.shape (release_of l.self).records;
  possible : first_refusal (l.i + 1) (release_of l.self) (drop l.i l.edits) ≡ first_refusal 1 (release_of l.fn.self) l.edits;
  release : edited_all (release_of l.self) (drop l.i l.edits) ≡ edited_all (release_of l.fn.self) l.edits;
  batch : joined l.batch (batch_of (release_of l.self) (drop l.i l.edits)) ≡ batch_of (release_of l.fn.self) l.edits;
}
