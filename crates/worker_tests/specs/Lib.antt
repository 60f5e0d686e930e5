pub mod CountingPorts
