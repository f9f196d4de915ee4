use Rattle.wires.proofs.tcp_wire.TcpWireWire.exchange.Goals as goal

pub returns-in-Err-clause-cause : goal.returns-in-Err-clause-cause
returns-in-Err-clause-cause g c = c.in-Err.ensures.cause c.args.limit
