use Rattle.std.proofs.Common.{◌≡◌, Option, None, length}
use Rattle.sect_lemmas.specs.Lists.{Has}
use Rattle.sect_cert.specs.declared.lock.CertLock.{CertLock}
use Rattle.sect_emit.proofs.known_locks.KnownLocks.new.Given as goal

abbrev pub invariant-loop : goal.invariant-loop
invariant-loop l = record {
  counted : length l.named.items ≡ l.counter;
  none : (o : Option CertLock) → Has l.named.items o → o ≡ None;
}
