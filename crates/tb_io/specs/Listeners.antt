-- Listeners and their sessions, as far as they are told.
use Rattle.std.specs.Prelude.{◌≡◌, ℕ, ◌≤◌, Bool, true, false, List, [], ◌∷◌, ◌++◌, refl}
use Rattle.std.specs.Prelude.{Option, None, Some, IsSome, option_map}
use Rattle.std.specs.Coded.{Coded, code_by, coded×, coded_list, coded_ℕ, coded_bool, coded_option}
use Rattle.tb_io.specs.Faults.{HasRisen}
use Rattle.tb_io.specs.Sources.{IsAtEnd}
use Rattle.tb_io.specs.declared.answers.Bound.{Bound}
use Rattle.tb_io.specs.declared.answers.Bound.TheVariants as bound
use Rattle.tb_io.specs.declared.answers.Accepted.{Accepted}
use Rattle.tb_io.specs.declared.answers.Accepted.TheVariants as accepted

-- a session: the bytes that its reader has left and those that its writer took, where they tell
-- them, and both counts of faults
pub record Connection : Type 0 where
  pub left : Option (List ℕ)
  pub taken : Option (List ℕ)
  pub reader_faults : ℕ
  pub writer_faults : ℕ

abbrev pub connection : Option (List ℕ) → Option (List ℕ) → ℕ → ℕ → Connection
connection left taken reader_faults writer_faults =
    record {
      left = left;
      taken = taken;
      reader_faults = reader_faults;
      writer_faults = writer_faults;
    }

-- a listener: its count of faults, the port that it is bound to, whether a session is out, and
-- where it tells them the sessions to come and those that came back
pub record ListenerValue : Type 0 where
  pub faults : ℕ
  pub port : Option ℕ
  pub is_out : Bool
  pub to_come : Option (List Connection)
  pub came_back : Option (List Connection)

-- how a session is coded, for a type whose value holds one
abbrev pub connection_code : Coded Connection
connection_code =
    code_by (Option (List ℕ) × (Option (List ℕ) × (ℕ × ℕ)))
    (coded× (coded_option (coded_list coded_ℕ))
    (coded× (coded_option (coded_list coded_ℕ)) (coded× coded_ℕ coded_ℕ)))
    (λ c. (c.left, (c.taken, (c.reader_faults, c.writer_faults))))
    (λ p. connection p.0 p.1.0 p.1.1.0 p.1.1.1)
    (λ _. refl)

-- how a listener is coded
abbrev pub listener_code : Coded ListenerValue
listener_code =
    code_by (ℕ × (Option ℕ × (Bool × (Option (List Connection) × Option (List Connection)))))
    (coded× coded_ℕ (coded× (coded_option coded_ℕ) (coded× coded_bool
    (coded× (coded_option (coded_list connection_code))
    (coded_option (coded_list connection_code))))))
    (λ l. (l.faults, (l.port, (l.is_out, (l.to_come, l.came_back)))))
    (λ p. record {
      faults = p.0;
      port = p.1.0;
      is_out = p.1.1.0;
      to_come = p.1.1.1.0;
      came_back = p.1.1.1.1;
    })
    (λ _. refl)

-- a listener that tells no sessions
abbrev pub telling_none : ℕ → Option ℕ → Bool → ListenerValue
telling_none faults port is_out =
    record { faults = faults; port = port; is_out = is_out; to_come = None; came_back = None }

-- where a listener tells its sessions, its count of faults stayed: a call that didn't fail raises
-- it of others alone, which may try again
abbrev pub IsCalm : ListenerValue → ListenerValue → Type 0
IsCalm before after = IsSome after.to_come → after.faults ≡ before.faults

-- it may be bound: it isn't yet, and no session is out
pub record CanBind (listener : ListenerValue) : Type 0 where
  pub unbound : listener.port ≡ None
  pub free : listener.is_out ≡ false

-- it may accept: it is bound, and no session is out
pub record CanAccept (listener : ListenerValue) : Type 0 where
  pub bound : IsSome listener.port
  pub free : listener.is_out ≡ false

-- nothing changed but that the count of faults may have risen
pub record IsSameBut (before after : ListenerValue) : Type 0 where
  pub count : before.faults ≤ after.faults
  pub port : after.port ≡ before.port
  pub out : after.is_out ≡ before.is_out
  pub to_come : after.to_come ≡ before.to_come
  pub came_back : after.came_back ≡ before.came_back

-- the call failed: nothing changed but the count of faults, which rose
abbrev pub HasFailed : ListenerValue → ListenerValue → Type 0
HasFailed before after = IsSameBut before after × HasRisen before.faults after.faults

-- what a bind did: the listener is bound to this port, or it is as before and the count of faults
-- rose
abbrev pub HasBound : ListenerValue → ListenerValue → ℕ → Bound → Type 0
HasBound before after port bound.Ready =
    IsSameBut (record before { port = Some port }) after × IsCalm before after
HasBound before after port bound.Failed = HasFailed before after

-- a session was accepted: it was the first to come, and is out
pub record Gives (before after : ListenerValue) (session : Connection) : Type 0 where
  pub count : before.faults ≤ after.faults
  pub calm : IsCalm before after
  pub port : after.port ≡ before.port
  pub out : after.is_out ≡ true
  pub to_come : before.to_come ≡ option_map (λ rest. session ∷ rest) after.to_come
  pub came_back : after.came_back ≡ before.came_back

-- what an accept did, of which the ends are seen as a session
abbrev pub HasAccepted : {R W : Type 0} → (R → W → Connection) → ListenerValue → ListenerValue
    → Accepted R W → Type 0
HasAccepted see before after (accepted.Session r w) = Gives before after (see r w)
HasAccepted see before after accepted.End =
    IsAtEnd before.to_come × IsSameBut before after × IsCalm before after
HasAccepted see before after accepted.Failed = HasFailed before after

-- a listener after a session came back
abbrev pub given_back : ListenerValue → Connection → ListenerValue
given_back listener session =
    record listener {
      is_out = false;
      came_back = option_map (λ back. back ++ session ∷ []) listener.came_back;
    }
