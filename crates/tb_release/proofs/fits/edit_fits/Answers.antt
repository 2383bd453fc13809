use Rattle.tb_release.proofs.fits.edit_fits.Goals as goal

pub returns-in-Add-clause-told : goal.returns-in-Add-clause-told
returns-in-Add-clause-told c = λ h. rw c.in-Add.is (c.record_fits.ensures.told h c.in-Add.person)

pub returns-in-Amend-clause-told : goal.returns-in-Amend-clause-told
returns-in-Amend-clause-told c = λ h. rw c.in-Amend.is (c.sets_fit.ensures.told h c.in-Amend.person)
