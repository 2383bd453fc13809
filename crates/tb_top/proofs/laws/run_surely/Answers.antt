use Rattle.std.proofs.Common.{inl, inr}
use Rattle.tb_io.proofs.FaultLemmas.{HasRisen-zero}
use Rattle.tb_top.proofs.laws.run_surely.Goals as goal

pub returns-clause-read : goal.returns-clause-read
returns-clause-read g c = λ h. HasRisen-zero (c.tablebuilder.ensures.read_fault h)

pub returns-clause-write : goal.returns-clause-write
returns-clause-write g c = λ h. HasRisen-zero (c.tablebuilder.ensures.write_fault h)

pub returns-clause-defined : goal.returns-clause-defined
returns-clause-defined g c = elim c.tablebuilder.ensures.exact [
  | inl defined ↦ inl defined
  | inr other ↦ elim other [
    | inl memory ↦ inr (inl memory)
    | inr fault ↦ elim fault [
      | inl read ↦ absurd (HasRisen-zero read.1)
      | inr more ↦ elim more [
        | inl write ↦ absurd (HasRisen-zero write.1)
        | inr most ↦ elim most [
          | inl net ↦ inr (inr (inl net))
          | inr journal ↦ elim journal [
            | inl line ↦ inr (inr (inr (elim line.1.3 [ inl refused ↦ inl refused.3 | inr failed ↦ inr failed.2 ])))
            | inr disk ↦ inr (inr (inr (inr disk.0)))
          ]
        ]
      ]
    ]
  ]
]

pub returns-clause-journal : goal.returns-clause-journal
returns-clause-journal g c = c.tablebuilder.ensures.journal

pub returns-clause-units : goal.returns-clause-units
returns-clause-units g c = c.tablebuilder.ensures.units

pub returns-clause-disk : goal.returns-clause-disk
returns-clause-disk g c = c.tablebuilder.ensures.disk_fault
