-- The test of two messages answers true of equal messages, and of no others.
use Rattle.std.proofs.Common.{◌≡◌, nat_eq, Bool, Option, Some, None, refl, ap}
use Rattle.std.specs.Bool.{Decides}
use Rattle.std.specs.Cmp.{unsigned_Decides}
use Rattle.std.specs.Cmp.Lexicographic.{pointwise_decides}
use Rattle.std.specs.Option.{option_eq}
use Rattle.cbsp_ie.specs.declared.cause.Cause.{Cause}
use Rattle.common.specs.Equality.{both, amounts}
use Rattle.cbsp_ie.specs.Equality.{identifications_decide, numbers_decide, failures_decide}
use Rattle.cbsp_messages.specs.PageText.{pages_decide}
use Rattle.cbsp_messages.specs.declared.message.Message.{Message}
use Rattle.cbsp_messages.specs.declared.message.Message.TheVariants as message
use Rattle.cbsp_messages.specs.contracts.message.MessagePartialEq.TheImpl.{ghosts}
use Rattle.cbsp_messages.specs.declared.messages.write_replace.WriteReplace.{WriteReplace}
use Rattle.cbsp_messages.specs.contracts.messages.write_replace.WriteReplacePartialEq.TheImpl as write_replace_eq
use Rattle.cbsp_messages.specs.declared.messages.write_emergency.WriteEmergency.{WriteEmergency}
use Rattle.cbsp_messages.specs.contracts.messages.write_emergency.WriteEmergencyPartialEq.TheImpl as write_emergency_eq
use Rattle.cbsp_messages.specs.declared.messages.write_complete.WriteComplete.{WriteComplete}
use Rattle.cbsp_messages.specs.contracts.messages.write_complete.WriteCompletePartialEq.TheImpl as write_complete_eq
use Rattle.cbsp_messages.specs.declared.messages.write_failure.WriteFailure.{WriteFailure}
use Rattle.cbsp_messages.specs.contracts.messages.write_failure.WriteFailurePartialEq.TheImpl as write_failure_eq
use Rattle.cbsp_messages.specs.declared.messages.kill.Kill.{Kill}
use Rattle.cbsp_messages.specs.contracts.messages.kill.KillPartialEq.TheImpl as kill_eq
use Rattle.cbsp_messages.specs.declared.messages.kill_complete.KillComplete.{KillComplete}
use Rattle.cbsp_messages.specs.contracts.messages.kill_complete.KillCompletePartialEq.TheImpl as kill_complete_eq
use Rattle.cbsp_messages.specs.declared.messages.kill_failure.KillFailure.{KillFailure}
use Rattle.cbsp_messages.specs.contracts.messages.kill_failure.KillFailurePartialEq.TheImpl as kill_failure_eq
use Rattle.cbsp_messages.specs.declared.messages.status_query.StatusQuery.{StatusQuery}
use Rattle.cbsp_messages.specs.contracts.messages.status_query.StatusQueryPartialEq.TheImpl as status_query_eq
use Rattle.cbsp_messages.specs.declared.messages.status_complete.StatusComplete.{StatusComplete}
use Rattle.cbsp_messages.specs.contracts.messages.status_complete.StatusCompletePartialEq.TheImpl as status_complete_eq
use Rattle.cbsp_messages.specs.declared.messages.status_failure.StatusFailure.{StatusFailure}
use Rattle.cbsp_messages.specs.contracts.messages.status_failure.StatusFailurePartialEq.TheImpl as status_failure_eq
use Rattle.cbsp_messages.specs.declared.messages.restart.Restart.{Restart}
use Rattle.cbsp_messages.specs.contracts.messages.restart.RestartPartialEq.TheImpl as restart_eq
use Rattle.cbsp_messages.specs.declared.messages.failure.Failure.{Failure}
use Rattle.cbsp_messages.specs.contracts.messages.failure.FailurePartialEq.TheImpl as failure_eq
use Rattle.cbsp_messages.specs.declared.messages.error_indication.ErrorIndication.{ErrorIndication}
use Rattle.cbsp_messages.specs.contracts.messages.error_indication.ErrorIndicationPartialEq.TheImpl as error_indication_eq

option_decides : {A : Type 0} {E : A → A → Bool} → ((x y : A) → Decides (E x y) (x ≡ y)) → (x y : Option A) → Decides (option_eq E x y) (x ≡ y)
option_decides d None None = (λ h. refl, λ e. refl)
option_decides d None (Some y) = (λ h. cc, λ e. cc)
option_decides d (Some x) None = (λ h. cc, λ e. cc)
option_decides d (Some x) (Some y) = amounts (d x y) (λ e. ap (λ z. Some z) e) (λ e. cc)

cause_decides : (x y : Cause) → Decides (nat_eq x.0 y.0) (x ≡ y)
cause_decides x y = amounts (unsigned_Decides x.0 y.0) (λ e. λ i. record { 0 = e i }) (λ e. λ i. (e i).0)

write_replace_decides : (x y : WriteReplace) → Decides (write_replace_eq.ghosts.eq x y) (x ≡ y)
write_replace_decides x y =
    amounts (both _ _ (unsigned_Decides x.message_id y.message_id) (both _ _ (unsigned_Decides x.serial y.serial) (both _ _ (option_decides unsigned_Decides x.old y.old) (both _ _ (identifications_decide x.cells y.cells) (both _ _ (option_decides unsigned_Decides x.channel y.channel) (both _ _ (unsigned_Decides x.category y.category) (both _ _ (unsigned_Decides x.period y.period) (both _ _ (unsigned_Decides x.requested y.requested) (both _ _ (pages_decide x.pages y.pages) (unsigned_Decides x.dcs y.dcs))))))))))
    (λ e. λ i. record { message_id = e.0 i; serial = e.1.0 i; old = e.1.1.0 i; cells = e.1.1.1.0 i; channel = e.1.1.1.1.0 i; category = e.1.1.1.1.1.0 i; period = e.1.1.1.1.1.1.0 i; requested = e.1.1.1.1.1.1.1.0 i; pages = e.1.1.1.1.1.1.1.1.0 i; dcs = e.1.1.1.1.1.1.1.1.1 i }) (λ e. (λ i. (e i).message_id, (λ i. (e i).serial, (λ i. (e i).old, (λ i. (e i).cells, (λ i. (e i).channel, (λ i. (e i).category, (λ i. (e i).period, (λ i. (e i).requested, (λ i. (e i).pages, λ i. (e i).dcs))))))))))

write_emergency_decides : (x y : WriteEmergency) → Decides (write_emergency_eq.ghosts.eq x y) (x ≡ y)
write_emergency_decides x y =
    amounts (both _ _ (unsigned_Decides x.message_id y.message_id) (both _ _ (unsigned_Decides x.serial y.serial) (both _ _ (option_decides unsigned_Decides x.old y.old) (both _ _ (identifications_decide x.cells y.cells) (both _ _ (unsigned_Decides x.indicator y.indicator) (both _ _ (unsigned_Decides x.warning_type y.warning_type) (both _ _ (unsigned_Decides x.warning_period y.warning_period) (pointwise_decides unsigned_Decides x.security y.security))))))))
    (λ e. λ i. record { message_id = e.0 i; serial = e.1.0 i; old = e.1.1.0 i; cells = e.1.1.1.0 i; indicator = e.1.1.1.1.0 i; warning_type = e.1.1.1.1.1.0 i; warning_period = e.1.1.1.1.1.1.0 i; security = e.1.1.1.1.1.1.1 i }) (λ e. (λ i. (e i).message_id, (λ i. (e i).serial, (λ i. (e i).old, (λ i. (e i).cells, (λ i. (e i).indicator, (λ i. (e i).warning_type, (λ i. (e i).warning_period, λ i. (e i).security))))))))

write_complete_decides : (x y : WriteComplete) → Decides (write_complete_eq.ghosts.eq x y) (x ≡ y)
write_complete_decides x y =
    amounts (both _ _ (unsigned_Decides x.message_id y.message_id) (both _ _ (unsigned_Decides x.serial y.serial) (both _ _ (option_decides unsigned_Decides x.old y.old) (both _ _ (option_decides numbers_decide x.counts y.counts) (both _ _ (option_decides identifications_decide x.cells y.cells) (option_decides unsigned_Decides x.channel y.channel))))))
    (λ e. λ i. record { message_id = e.0 i; serial = e.1.0 i; old = e.1.1.0 i; counts = e.1.1.1.0 i; cells = e.1.1.1.1.0 i; channel = e.1.1.1.1.1 i }) (λ e. (λ i. (e i).message_id, (λ i. (e i).serial, (λ i. (e i).old, (λ i. (e i).counts, (λ i. (e i).cells, λ i. (e i).channel))))))

write_failure_decides : (x y : WriteFailure) → Decides (write_failure_eq.ghosts.eq x y) (x ≡ y)
write_failure_decides x y =
    amounts (both _ _ (unsigned_Decides x.message_id y.message_id) (both _ _ (unsigned_Decides x.serial y.serial) (both _ _ (option_decides unsigned_Decides x.old y.old) (both _ _ (failures_decide x.failures y.failures) (both _ _ (option_decides numbers_decide x.counts y.counts) (both _ _ (option_decides identifications_decide x.cells y.cells) (option_decides unsigned_Decides x.channel y.channel)))))))
    (λ e. λ i. record { message_id = e.0 i; serial = e.1.0 i; old = e.1.1.0 i; failures = e.1.1.1.0 i; counts = e.1.1.1.1.0 i; cells = e.1.1.1.1.1.0 i; channel = e.1.1.1.1.1.1 i }) (λ e. (λ i. (e i).message_id, (λ i. (e i).serial, (λ i. (e i).old, (λ i. (e i).failures, (λ i. (e i).counts, (λ i. (e i).cells, λ i. (e i).channel)))))))

kill_decides : (x y : Kill) → Decides (kill_eq.ghosts.eq x y) (x ≡ y)
kill_decides x y =
    amounts (both _ _ (unsigned_Decides x.message_id y.message_id) (both _ _ (unsigned_Decides x.serial y.serial) (both _ _ (identifications_decide x.cells y.cells) (option_decides unsigned_Decides x.channel y.channel))))
    (λ e. λ i. record { message_id = e.0 i; serial = e.1.0 i; cells = e.1.1.0 i; channel = e.1.1.1 i }) (λ e. (λ i. (e i).message_id, (λ i. (e i).serial, (λ i. (e i).cells, λ i. (e i).channel))))

kill_complete_decides : (x y : KillComplete) → Decides (kill_complete_eq.ghosts.eq x y) (x ≡ y)
kill_complete_decides x y =
    amounts (both _ _ (unsigned_Decides x.message_id y.message_id) (both _ _ (unsigned_Decides x.serial y.serial) (both _ _ (option_decides numbers_decide x.counts y.counts) (both _ _ (option_decides identifications_decide x.cells y.cells) (option_decides unsigned_Decides x.channel y.channel)))))
    (λ e. λ i. record { message_id = e.0 i; serial = e.1.0 i; counts = e.1.1.0 i; cells = e.1.1.1.0 i; channel = e.1.1.1.1 i }) (λ e. (λ i. (e i).message_id, (λ i. (e i).serial, (λ i. (e i).counts, (λ i. (e i).cells, λ i. (e i).channel)))))

kill_failure_decides : (x y : KillFailure) → Decides (kill_failure_eq.ghosts.eq x y) (x ≡ y)
kill_failure_decides x y =
    amounts (both _ _ (unsigned_Decides x.message_id y.message_id) (both _ _ (unsigned_Decides x.serial y.serial) (both _ _ (failures_decide x.failures y.failures) (both _ _ (option_decides numbers_decide x.counts y.counts) (both _ _ (option_decides identifications_decide x.cells y.cells) (option_decides unsigned_Decides x.channel y.channel))))))
    (λ e. λ i. record { message_id = e.0 i; serial = e.1.0 i; failures = e.1.1.0 i; counts = e.1.1.1.0 i; cells = e.1.1.1.1.0 i; channel = e.1.1.1.1.1 i }) (λ e. (λ i. (e i).message_id, (λ i. (e i).serial, (λ i. (e i).failures, (λ i. (e i).counts, (λ i. (e i).cells, λ i. (e i).channel))))))

status_query_decides : (x y : StatusQuery) → Decides (status_query_eq.ghosts.eq x y) (x ≡ y)
status_query_decides x y =
    amounts (both _ _ (unsigned_Decides x.message_id y.message_id) (both _ _ (unsigned_Decides x.serial y.serial) (both _ _ (identifications_decide x.cells y.cells) (option_decides unsigned_Decides x.channel y.channel))))
    (λ e. λ i. record { message_id = e.0 i; serial = e.1.0 i; cells = e.1.1.0 i; channel = e.1.1.1 i }) (λ e. (λ i. (e i).message_id, (λ i. (e i).serial, (λ i. (e i).cells, λ i. (e i).channel))))

status_complete_decides : (x y : StatusComplete) → Decides (status_complete_eq.ghosts.eq x y) (x ≡ y)
status_complete_decides x y =
    amounts (both _ _ (unsigned_Decides x.message_id y.message_id) (both _ _ (unsigned_Decides x.serial y.serial) (both _ _ (numbers_decide x.counts y.counts) (option_decides unsigned_Decides x.channel y.channel))))
    (λ e. λ i. record { message_id = e.0 i; serial = e.1.0 i; counts = e.1.1.0 i; channel = e.1.1.1 i }) (λ e. (λ i. (e i).message_id, (λ i. (e i).serial, (λ i. (e i).counts, λ i. (e i).channel))))

status_failure_decides : (x y : StatusFailure) → Decides (status_failure_eq.ghosts.eq x y) (x ≡ y)
status_failure_decides x y =
    amounts (both _ _ (unsigned_Decides x.message_id y.message_id) (both _ _ (unsigned_Decides x.serial y.serial) (both _ _ (failures_decide x.failures y.failures) (both _ _ (option_decides numbers_decide x.counts y.counts) (option_decides unsigned_Decides x.channel y.channel)))))
    (λ e. λ i. record { message_id = e.0 i; serial = e.1.0 i; failures = e.1.1.0 i; counts = e.1.1.1.0 i; channel = e.1.1.1.1 i }) (λ e. (λ i. (e i).message_id, (λ i. (e i).serial, (λ i. (e i).failures, (λ i. (e i).counts, λ i. (e i).channel)))))

restart_decides : (x y : Restart) → Decides (restart_eq.ghosts.eq x y) (x ≡ y)
restart_decides x y =
    amounts (both _ _ (identifications_decide x.cells y.cells) (both _ _ (unsigned_Decides x.kind y.kind) (unsigned_Decides x.recovery y.recovery)))
    (λ e. λ i. record { cells = e.0 i; kind = e.1.0 i; recovery = e.1.1 i }) (λ e. (λ i. (e i).cells, (λ i. (e i).kind, λ i. (e i).recovery)))

failure_decides : (x y : Failure) → Decides (failure_eq.ghosts.eq x y) (x ≡ y)
failure_decides x y =
    amounts (both _ _ (failures_decide x.failures y.failures) (unsigned_Decides x.kind y.kind))
    (λ e. λ i. record { failures = e.0 i; kind = e.1 i }) (λ e. (λ i. (e i).failures, λ i. (e i).kind))

error_indication_decides : (x y : ErrorIndication) → Decides (error_indication_eq.ghosts.eq x y) (x ≡ y)
error_indication_decides x y =
    amounts (both _ _ (cause_decides x.cause y.cause) (both _ _ (option_decides unsigned_Decides x.message_id y.message_id) (both _ _ (option_decides unsigned_Decides x.serial y.serial) (both _ _ (option_decides unsigned_Decides x.old y.old) (option_decides unsigned_Decides x.channel y.channel)))))
    (λ e. λ i. record { cause = e.0 i; message_id = e.1.0 i; serial = e.1.1.0 i; old = e.1.1.1.0 i; channel = e.1.1.1.1 i }) (λ e. (λ i. (e i).cause, (λ i. (e i).message_id, (λ i. (e i).serial, (λ i. (e i).old, λ i. (e i).channel)))))

pub message_decides : (x y : Message) → Decides (ghosts.eq x y) (x ≡ y)
message_decides (message.WriteReplace a) (message.WriteReplace b) = amounts (write_replace_decides a b) (λ e. λ i. message.WriteReplace (e i)) (λ e. cc)
message_decides (message.WriteEmergency a) (message.WriteEmergency b) = amounts (write_emergency_decides a b) (λ e. λ i. message.WriteEmergency (e i)) (λ e. cc)
message_decides (message.WriteComplete a) (message.WriteComplete b) = amounts (write_complete_decides a b) (λ e. λ i. message.WriteComplete (e i)) (λ e. cc)
message_decides (message.WriteFailure a) (message.WriteFailure b) = amounts (write_failure_decides a b) (λ e. λ i. message.WriteFailure (e i)) (λ e. cc)
message_decides (message.Kill a) (message.Kill b) = amounts (kill_decides a b) (λ e. λ i. message.Kill (e i)) (λ e. cc)
message_decides (message.KillComplete a) (message.KillComplete b) = amounts (kill_complete_decides a b) (λ e. λ i. message.KillComplete (e i)) (λ e. cc)
message_decides (message.KillFailure a) (message.KillFailure b) = amounts (kill_failure_decides a b) (λ e. λ i. message.KillFailure (e i)) (λ e. cc)
message_decides (message.StatusQuery a) (message.StatusQuery b) = amounts (status_query_decides a b) (λ e. λ i. message.StatusQuery (e i)) (λ e. cc)
message_decides (message.StatusComplete a) (message.StatusComplete b) = amounts (status_complete_decides a b) (λ e. λ i. message.StatusComplete (e i)) (λ e. cc)
message_decides (message.StatusFailure a) (message.StatusFailure b) = amounts (status_failure_decides a b) (λ e. λ i. message.StatusFailure (e i)) (λ e. cc)
message_decides (message.Restart a) (message.Restart b) = amounts (restart_decides a b) (λ e. λ i. message.Restart (e i)) (λ e. cc)
message_decides (message.Failure a) (message.Failure b) = amounts (failure_decides a b) (λ e. λ i. message.Failure (e i)) (λ e. cc)
message_decides (message.ErrorIndication a) (message.ErrorIndication b) = amounts (error_indication_decides a b) (λ e. λ i. message.ErrorIndication (e i)) (λ e. cc)
message_decides x y = (λ h. cc, λ e. cc)
